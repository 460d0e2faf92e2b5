-- Values, verdicts, knots, cells and explanations at small traces, where the answers are known by hand.
use Rattle.std.proofs.Common.{ℕ, pos, negsuc, ◌⊎◌, inl, inr, [], ◌∷◌, refl, Bool, true, false, lit<, arith}
use Rattle.std.specs.Prelude.{IsTrue, Some}
use Rattle.rational.specs.Rational.{Rational, subtract}
use Rattle.rational.specs.Line.{Line, at}
use Rattle.rational.proofs.Order.{le_or_lt, le_trans, le_of_lt, same_refl, same_sym, le_of_same, ge_of_same, same_trans}
use Rattle.rational.specs.Time.{◌≤ʳ◌, ◌<ʳ◌, ◌≈◌, whole, closed}
use Rattle.frac128.specs.Value.{value}
use Rattle.rational.specs.Windows.{Ahead, Behind}
use Rattle.rational.specs.Extended.{Extended, finite, minus_infinity, infinity, ◌<ᵉ◌, ◌≈ᵉ◌, affine}
use Rattle.stl_syntax.specs.Trace.{value_of, start, stop}
use Rattle.stl_syntax.specs.Formula.{eventually, always, once}
use Rattle.stl_syntax.specs.Truth.{Truth, expression, compares}
use Rattle.stl_syntax.specs.Knots.{Knots, IsInside}
use Rattle.stl_syntax.specs.SupInf.{Robustness}
use Rattle.stl_syntax.specs.Verdicts.{Describes, DescribesMargins, IsTold}
use Rattle.frac128.specs.declared.frac.Frac.{Frac}
use Rattle.frac128.proofs.Wholes.{whole_frac, span_between}
use Rattle.frac128.specs.declared.span.Span.{Span}
use Rattle.stl_syntax.specs.declared.rel.Rel.TheVariants.{AtLeast}
use Rattle.rational.proofs.TimeLemmas.{less_in}
use Rattle.stl_syntax.proofs.TruthLemmas.{same_expression, compares_same}
use Rattle.rational.proofs.ExtendedLemmas.{le_transᵉ}
use Rattle.stl_syntax.proofs.Examples.{rise, at_least_5, x_at_least_5, at_time}

at_end : expression at_least_5 rise (at_time 10) ≈ subtract (at_time 10) (at_time 5)
unfolding expression value_of
at_end = record { same = refl }

before : (u : Rational) → u <ʳ at_time 10 → expression at_least_5 rise u ≈ subtract u (at_time 5)
unfolding expression value_of
before u l = rw (less_in u (at_time 10) l) (record { same = omega arith })

-- on the rise the expression of `x >= 5` is the time less 5
rise_value : (u : Rational) → u ≤ʳ at_time 10 → expression at_least_5 rise u ≈ subtract u (at_time 5)
rise_value u h = by_order (le_or_lt (at_time 10) u)
  where
    by_order : (at_time 10 ≤ʳ u) ⊎ (u <ʳ at_time 10) → expression at_least_5 rise u ≈ subtract u (at_time 5)
    by_order (inr l) = before u l
    by_order (inl l) =
        let e : u ≈ at_time 10 = omega arith in
        same_trans (same_expression at_least_5 rise e) (same_trans at_end (record { same = omega (arith, e.same) }))

-- the robustness of `x >= 5` on the rise is the time less 5
robust_rise : (u : Rational) → u ≤ʳ at_time 10 → Robustness x_at_least_5 rise u (finite (subtract u (at_time 5)))
robust_rise u h = let e = rise_value u h in record { at_most = ge_of_same e; at_least = le_of_same e }

-- `always[3,4] x >= 5` at 8: the window is empty, so the robustness is inf; `eventually` has -inf there
nothing_ahead : (u : Rational) → Ahead (start rise) (stop rise) 3 4 true true (at_time 8) u → ⊥
nothing_ahead u w = let a = w.begins in let b = w.inside.below in omega arith

robust_empty : Robustness (always 3 4 true true x_at_least_5) rise (at_time 8) infinity
robust_empty = record { at_most = tt; bound = λ v. λ (u, w, h). absurd (nothing_ahead u w); reached = λ w l k. absurd l }

robust_empty_sup : Robustness (eventually 3 4 true true x_at_least_5) rise (at_time 8) minus_infinity
robust_empty_sup = record { at_least = tt; bound = λ v. λ (u, w, h). absurd (nothing_ahead u w); reached = λ w l k. absurd (none w k) }
  where
    none : (w : Extended) → w <ᵉ minus_infinity → ⊥
    none minus_infinity k = k
    none (finite x) k = k
    none infinity k = k

-- `once[1,2] x >= 5` at 8 has the robustness 2, reached at 7
robust_once : Robustness (once 1 (Some 2) true true x_at_least_5) rise (at_time 8) (finite (at_time 2))
robust_once = record {
  at_least = tt;
  bound = λ v. λ (u, w, h). le_transᵉ v (finite (expression at_least_5 rise u)) (finite (at_time 2)) h.at_most (at_most u w);
  reached = λ w l k. (finite (subtract (at_time 7) (at_time 5)), (at_time 7, omega arith, robust_rise (at_time 7) (omega arith)), by_value w k);
}
  where
    at_most : (u : Rational) → Behind (start rise) (stop rise) 1 (Some 2) true true (at_time 8) u → expression at_least_5 rise u ≤ʳ at_time 2
    at_most u w = let a = w.ends in let e = rise_value u w.inside.below in le_trans (le_of_same e) (record { le = omega arith })

    by_value : (w : Extended) → w <ᵉ finite (at_time 2) → w <ᵉ finite (subtract (at_time 7) (at_time 5))
    by_value minus_infinity k = tt
    by_value (finite x) k = let j = k.lt in record { lt = omega arith }
    by_value infinity k = k

abbrev pub fraction : ℕ → Frac
fraction n = whole_frac (pos n)

abbrev pub span : (a : ℕ) (i : Bool) (b : ℕ) (o : Bool) → value (fraction a) <ʳ value (fraction b) → Span
span a i b o h = span_between (fraction a) i (fraction b) o h

-- `x >= 5` on the rise: [0,5) false, [5,10] true
pub low_fails : (u : Rational) → u <ʳ at_time 5 → ¬ Truth x_at_least_5 rise u
low_fails u h k =
    cannot (compares_same AtLeast (expression at_least_5 rise u) (subtract u (at_time 5)) (rise_value u (let l = h.lt in record { le = omega arith })) k)
  where
    cannot : ¬ IsTrue (compares AtLeast (subtract u (at_time 5)))
    cannot j = let l = h.lt in grind arith

pub high_holds : (u : Rational) → at_time 5 ≤ʳ u → u ≤ʳ at_time 10 → Truth x_at_least_5 rise u
high_holds u h k =
    compares_same AtLeast (subtract u (at_time 5)) (expression at_least_5 rise u) (same_sym (rise_value u k)) (let l = h.le in grind arith)

rise_verdicts : Describes (record { on = span 0 true 5 false (record { lt = lit< tt }); holds = false }
    ∷ record { on = span 5 true 10 true (record { lt = lit< tt }); holds = true } ∷ []) x_at_least_5 rise (closed (start rise) (stop rise))
rise_verdicts = (
  record { time = record { same = refl }; inside = refl },
  record { not_empty = inl (record { lt = lit< tt }); truth = λ t w. low_fails t (let h : t <ʳ value (fraction 5) = w.below in record { lt = h.lt }) },
  (
    record { time = record { same = refl }; once = λ e. cc },
    (λ e. cc),
    record {
      not_empty = inl (record { lt = lit< tt });
      truth = λ t w. high_holds t
          (let h : value (fraction 5) ≤ʳ t = w.above in record { le = h.le }) (let h : t ≤ʳ value (fraction 10) = w.below in record { le = h.le });
    },
    record { time = record { same = refl }; inside = refl },
  ),
)

-- another cut does not describe it: `[0,5] false` is wrong at 5
pub wrong_verdict : ¬ IsTold x_at_least_5 rise (record { on = span 0 true 5 true (record { lt = lit< tt }); holds = false })
wrong_verdict h = h.truth (at_time 5) (omega arith) (high_holds (at_time 5) (omega arith) (omega arith))

-- the knots of its robustness: -5 at 0, rising to 5 at 10
abbrev rise_knots : Knots
rise_knots = record {
  first = record { time = at_time 0; value = finite (whole (negsuc 4)) };
  pieces = record { from = finite (whole (negsuc 4)); to = finite (at_time 5); next = record { time = at_time 10; value = finite (at_time 5) } } ∷ [];
}

-- the line t - 5
abbrev less_5 : Line
less_5 = record { base_up = 0; base_down = 5; rise_up = 1; rise_down = 0; run = 1; positive = lit< tt }

close : {x y z : Rational} → x ≈ y → y ≈ z → finite x ≈ᵉ finite z
close h k = record { at_most = le_of_same (same_trans h k); at_least = ge_of_same (same_trans h k) }

rise_margins : DescribesMargins rise_knots x_at_least_5 rise
rise_margins = (
  record { same = refl },
  close (record { same = refl }) (same_sym (rise_value (at_time 0) (omega arith))),
  inr (
    (record { lt = lit< tt }, inside),
    close (record { same = refl }) (same_sym (rise_value (at_time 10) (omega arith))),
    record { same = refl },
  ),
)
  where
    line_is : (t : Rational) → subtract t (at_time 5) ≈ at less_5 t
    line_is t = record { same = omega arith }

    inside : (t : Rational) → at_time 0 <ʳ t → t <ʳ at_time 10 → (r : Extended) × Robustness x_at_least_5 rise t r
        × IsInside (record { time = at_time 0; value = finite (whole (negsuc 4)) })
        (record { from = finite (whole (negsuc 4)); to = finite (at_time 5); next = record { time = at_time 10; value = finite (at_time 5) } }) t r
    inside t h k = (
      finite (subtract t (at_time 5)),
      robust_rise t (le_of_lt k),
      record {
        after = h;
        before = k;
        through = affine less_5;
        from = record { at_most = omega arith; at_least = omega arith };
        to = record { at_most = omega arith; at_least = omega arith };
        value = close (line_is t) (same_refl (at less_5 t));
      },
    )
