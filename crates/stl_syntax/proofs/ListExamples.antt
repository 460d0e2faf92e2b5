-- Lists of verdicts that miss by little, and a list of knots with infinite pieces.
use Rattle.std.proofs.Common.{ℕ, Bool, List, [], ◌∷◌, refl, true, false, arith, lit<, inr}
use Rattle.rational.specs.Time.{Rational, ◌≤ʳ◌, ◌<ʳ◌, closed, later}
use Rattle.rational.specs.Windows.{Ahead}
use Rattle.rational.specs.Extended.{minus_infinity, infinity, ◌≈ᵉ◌, Affine, always_low, affine, always_high, value_at}
use Rattle.rational.proofs.Order.{le_of_lt, le_trans}
use Rattle.rational.proofs.AffineLemmas.{same_reflᵉ}
use Rattle.frac128.specs.Value.{value}
use Rattle.stl_syntax.specs.Trace.{start, stop}
use Rattle.stl_syntax.specs.Formula.{Subformula, constant, always}
use Rattle.stl_syntax.specs.Knots.{Knot, Knots}
use Rattle.stl_syntax.specs.SupInf.{Robustness}
use Rattle.stl_syntax.specs.Verdicts.{Describes, DescribesMargins}
use Rattle.stl_syntax.specs.declared.items.Verdict.{Verdict}
use Rattle.stl_syntax.proofs.Examples.{rise, x_at_least_5, at_time}
use Rattle.stl_syntax.proofs.MoreExamples.{fraction, span, wrong_verdict}

abbrev told : (a : ℕ) (i : Bool) (b : ℕ) (o : Bool) → value (fraction a) <ʳ value (fraction b) → Bool → Verdict
told a i b o h holds = record { on = span a i b o h; holds = holds }

abbrev DescribesRise : List Verdict → Type 0
DescribesRise verdicts = Describes verdicts x_at_least_5 rise (closed (start rise) (stop rise))

-- `[0,5] false, (5,10] true` is wrong at 5 alone
wrong_at_5 : ¬ DescribesRise (told 0 true 5 true (record { lt = lit< tt }) false ∷ told 5 false 10 true (record { lt = lit< tt }) true ∷ [])
wrong_at_5 h = wrong_verdict h.1

-- `[0,5) false, (5,10] true` says nothing of 5
leaves_5_out : ¬ DescribesRise (told 0 true 5 false (record { lt = lit< tt }) false ∷ told 5 false 10 true (record { lt = lit< tt }) true ∷ [])
leaves_5_out h = h.2.0.once refl

-- `[0,5] false, [5,10] true` says two things of 5
says_5_twice : ¬ DescribesRise (told 0 true 5 true (record { lt = lit< tt }) false ∷ told 5 true 10 true (record { lt = lit< tt }) true ∷ [])
says_5_twice h = h.2.0.once refl

-- `[0,3) false, [3,5) false, [5,10] true` has two lines for one
parted : ¬ DescribesRise (told 0 true 3 false (record { lt = lit< tt }) false ∷ told 3 true 5 false
    (record { lt = lit< tt }) false ∷ told 5 true 10 true (record { lt = lit< tt }) true ∷ [])
parted h = h.2.1 refl

-- `(0,5) false, [5,10] true` leaves the start out, and `[0,5) false, [5,10) true` the end
without_start : ¬ DescribesRise (told 0 false 5 false (record { lt = lit< tt }) false ∷ told 5 true 10 true (record { lt = lit< tt }) true ∷ [])
without_start h = let e = h.0.inside in cc

without_end : ¬ DescribesRise (told 0 true 5 false (record { lt = lit< tt }) false ∷ told 5 true 10 false (record { lt = lit< tt }) true ∷ [])
without_end h = let e = h.2.3.inside in cc

-- `always[1,1] false` has -inf where the window has a time, up to 9, and inf from there on
abbrev late : Subformula
late = always 1 1 true true (constant false)

early_value : (t : Rational) → at_time 0 ≤ʳ t → t ≤ʳ at_time 9 → Robustness late rise t minus_infinity
early_value t h k = record {
  at_most = tt;
  bound = λ v m. tt;
  reached = λ w l _. (minus_infinity, (later t 1, (let a = h.le in let b = k.le in omega (arith, a, b)), record { at_most = tt; at_least = tt }), l);
}

late_value : (t : Rational) → at_time 9 <ʳ t → Robustness late rise t infinity
late_value t h = record {
  at_most = tt;
  bound = λ v. λ (u, w, m). absurd (empty u w);
  reached = λ w l _. absurd l;
}
  where
    empty : (u : Rational) → ¬ Ahead (start rise) (stop rise) 1 1 true true t u
    empty u w =
        let a = w.begins in
        let b = w.inside.below in
        let c : later t 1 ≤ʳ at_time 10 = le_trans a b in
        let d = h.lt in
        let e = c.le in
        omega (arith, d, e)

abbrev low_knot : ℕ → Knot
low_knot n = record { time = at_time n; value = minus_infinity }

abbrev late_knots : Knots
late_knots = record {
  first = low_knot 0;
  pieces = record { from = minus_infinity; to = minus_infinity; next = low_knot 9 }
      ∷ record { from = infinity; to = infinity; next = record { time = at_time 10; value = infinity } } ∷ [];
}

not_one_line : (g : Affine) → minus_infinity ≈ᵉ value_at g (at_time 0) → infinity ≈ᵉ value_at g (at_time 10) → ⊥
not_one_line always_low h k = k.at_most
not_one_line (affine f) h k = k.at_most
not_one_line always_high h k = h.at_least

late_margins : DescribesMargins late_knots late rise
late_margins = (
  record { same = refl },
  early_value (at_time 0) (omega arith) (omega arith),
  inr (
    (
      record { lt = lit< tt },
      λ t h k. (
        minus_infinity,
        early_value t (le_of_lt h) (le_of_lt k),
        record {
          after = h;
          before = k;
          through = always_low;
          from = same_reflᵉ minus_infinity;
          to = same_reflᵉ minus_infinity;
          value = same_reflᵉ minus_infinity;
        },
      ),
    ),
    early_value (at_time 9) (omega arith) (omega arith),
    (
      (λ n. not_one_line n.through n.begins n.ends),
      (
        record { lt = lit< tt },
        λ t h k. (
          infinity,
          late_value t h,
          record { after = h; before = k; through = always_high; from = same_reflᵉ infinity; to = same_reflᵉ infinity; value = same_reflᵉ infinity },
        ),
      ),
      late_value (at_time 10) (record { lt = lit< tt }),
      record { same = refl },
    ),
  ),
)
