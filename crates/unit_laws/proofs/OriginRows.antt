-- A delayed trace is the trace by a clock that shows d at 0; so its truth and its robustness move with it.
use Rattle.std.proofs.Common.{◌≡◌, ℕ, suc, ◌+◌, ◌*◌, ◌<◌, List, [], ◌∷◌, map, refl, sym, ap, ◌∙◌, subst, arith, ℤ, pos, negsuc, Option, Some, None, lit<}
use Rattle.std.specs.Prelude.{◌*ℤ◌, ◌↔◌, neg_ℤ, option_map}
use Rattle.rational.specs.Time.{Rational, ◌≈◌, later}
use Rattle.rational.specs.Extended.{Extended, minus_infinity, finite, infinity, ◌≈ᵉ◌}
use Rattle.rational.proofs.Order.{same_sym, same_trans}
use Rattle.rational.proofs.AffineLemmas.{same_reflᵉ, same_symᵉ, finite_same}
use Rattle.stl_syntax.specs.Trace.{Row, Trace, IsTrace, start, stop}
use Rattle.stl_syntax.specs.Formula.{Subformula, constant, atom, negation, conjunction, disjunction}
use Rattle.stl_syntax.specs.Formula.{implication, until, eventually, always, since, once, historically}
use Rattle.stl_syntax.specs.Truth.{Truth, expression}
use Rattle.stl_syntax.specs.Scaling.{scaled_atom}
use Rattle.stl_syntax.specs.declared.atom.Atom.{Atom}
use Rattle.stl_syntax.specs.SupInf.{Robustness, margin_setting}
use Rattle.stl_syntax.proofs.TruthLemmas.{Truth-same, same_expression}
use Rattle.stl_syntax.proofs.TimeLaw.{SupInf-same}
use Rattle.stl_syntax.proofs.SupInfLemmas.{value_alike}
use Rattle.unit_laws.specs.Origins.{delayed_row, delayed, TruthMoves, RobustnessMoves}
use Rattle.bounds.proofs.NearTimes.{ahead, behind}
use Rattle.unit_laws.proofs.Multiples.{stretch}
use Rattle.unit_laws.proofs.Clocks.{clock, clock_same}
use Rattle.unit_laws.proofs.Recounts.{IsRecount}
use Rattle.unit_laws.proofs.FinerTrees.{finer_tree}
use Rattle.unit_laws.proofs.FinerTraces.{row_by, counted_anew}
use Rattle.unit_laws.proofs.FinerTruth.{truth_by}
use Rattle.unit_laws.proofs.FinerValues.{stretchᵉ}
use Rattle.unit_laws.proofs.FinerMargins.{margins_by}

-- one time a number is the number
pub one_time : (n : ℕ) → 1 * n ≡ n
one_time n = omega arith

-- and so for whole numbers
pub one_value : (z : ℤ) → pos 1 *ℤ z ≡ z
one_value (pos n) = ap pos (one_time n)
one_value (negsuc n) = ap (λ x. neg_ℤ (pos x)) (one_time (suc n))

values_one : (values : List ℤ) → map (λ v. pos 1 *ℤ v) values ≡ values
values_one [] = refl
values_one (v ∷ values) = ap (λ x. x ∷ map (λ v. pos 1 *ℤ v) values) (one_value v) ∙ ap (λ xs. v ∷ xs) (values_one values)

-- and for bounds
pub bound_one : (b : Option ℕ) → option_map (λ b. 1 * b) b ≡ b
bound_one None = refl
bound_one (Some b) = ap Some (one_time b)

-- a formula in ticks that are as large as the old ones
pub same_tree : (p : Subformula) → finer_tree 1 1 p ≡ p
same_tree (constant b) = refl
same_tree (atom i a) = ap (λ z. atom i (record { terms = a.terms; rel = a.rel; limit = z })) (one_value a.limit)
same_tree (negation p) = rw (same_tree p) refl
same_tree (conjunction p q) = rw (same_tree p, same_tree q) refl
same_tree (disjunction p q) = rw (same_tree p, same_tree q) refl
same_tree (implication p q) = rw (same_tree p, same_tree q) refl
same_tree (until a b p q) = rw (same_tree p, same_tree q, one_time a, one_time b) refl
same_tree (eventually a b a_in b_in p) = rw (same_tree p, one_time a, one_time b) refl
same_tree (always a b a_in b_in p) = rw (same_tree p, one_time a, one_time b) refl
same_tree (since a b p q) = rw (same_tree p, same_tree q, one_time a, bound_one b) refl
same_tree (once a b a_in b_in p) = rw (same_tree p, one_time a, bound_one b) refl
same_tree (historically a b a_in b_in p) = rw (same_tree p, one_time a, bound_one b) refl

-- one is more than nothing
pub some_one : 0 < 1
some_one = lit< tt

-- the row d ticks later is the row by a clock that shows d at 0
row_delayed : (d : ℕ) (r : Row) → delayed_row d r ≡ row_by 1 d 1 some_one some_one r
row_delayed d r =
    ap (λ x. let row : Row = record { time = x + d; values = r.values } in row) (sym (one_time r.time))
    ∙ ap (λ vs. let row : Row = record { time = 1 * r.time + d; values = vs } in row) (sym (values_one r.values))

-- the rows d ticks later are the rows by a clock that shows d at 0
pub rows_delayed : (d : ℕ) (rows : List Row) → map (delayed_row d) rows ≡ map (row_by 1 d 1 some_one some_one) rows
rows_delayed d [] = refl
rows_delayed d (r ∷ rows) =
    ap (λ x. x ∷ map (delayed_row d) rows) (row_delayed d r) ∙ ap (λ rs. row_by 1 d 1 some_one some_one r ∷ rs) (rows_delayed d rows)

-- the delayed trace is the trace by a clock that shows d at 0
pub delayed_counts : (d : ℕ) (tr : Trace) → IsTrace tr → IsRecount 1 (ahead d) 1 tr (delayed d tr)
delayed_counts d tr ok =
    subst (λ rows. IsRecount 1 (ahead d) 1 tr (record { header = tr.header; rows = rows })) (sym (rows_delayed d tr.rows))
    (counted_anew 1 d 1 some_one some_one tr ok tr.header.scale)

-- the clock shows d more
pub clock_later : (d : ℕ) (t : Rational) → clock 1 (ahead d) t ≈ later t d
clock_later d t = record { same = omega arith }

same_atom : (a : Atom) → scaled_atom 1 a ≡ a
same_atom a = ap (λ z. let other : Atom = record { terms = a.terms; rel = a.rel; limit = z } in other) (one_value a.limit)

-- one time a number is the number
pub one_multiple : (x : Rational) → stretch 1 x ≈ x
one_multiple x = record { same = omega arith }

-- a time is what the clock that shows d at 0 shows where the one that shows -d does
pub later_behind : (d : ℕ) (t : Rational) → clock 1 (ahead d) (clock 1 (behind d) t) ≈ t
later_behind d t = record { same = omega arith }

-- and the other way round
pub behind_later : (d : ℕ) (t : Rational) → clock 1 (behind d) (clock 1 (ahead d) t) ≈ t
behind_later d t = record { same = omega arith }

-- where one trace is another by a clock that shows d at 0, the other is the one by a clock that shows -d
pub counts_back : (d : ℕ) {tr ur : Trace} → IsRecount 1 (ahead d) 1 tr ur → IsRecount 1 (behind d) 1 ur tr
counts_back d {tr} {ur} c = record {
  expressions = λ a t.
      let u = clock 1 (behind d) t in
      let back = same_expression a ur (later_behind d t) in
      let there = subst (λ b. expression b ur (clock 1 (ahead d) u) ≈ stretch 1 (expression a tr u)) (same_atom a) (c.expressions a u) in
      subst (λ b. expression b tr u ≈ stretch 1 (expression a ur t)) (sym (same_atom a))
      (same_trans (same_sym (one_multiple (expression a tr u))) (same_trans (same_sym there)
      (same_trans back (same_sym (one_multiple (expression a ur t))))));
  starts = same_sym (same_trans (clock_same 1 (behind d) c.starts) (behind_later d (start tr)));
  stops = same_sym (same_trans (clock_same 1 (behind d) c.stops) (behind_later d (stop tr)));
}

-- so the trace is the delayed one by such a clock
pub trace_counts : (d : ℕ) (tr : Trace) → IsTrace tr → IsRecount 1 (behind d) 1 (delayed d tr) tr
trace_counts d tr ok = counts_back d (delayed_counts d tr ok)

-- a value is one time itself
pub value_one : (v : Extended) → stretchᵉ 1 v ≈ᵉ v
value_one minus_infinity = same_reflᵉ minus_infinity
value_one (finite x) = finite_same {x = stretch 1 x} {y = x} (record { same = omega arith })
value_one infinity = same_reflᵉ infinity

-- the truth moves with the trace
pub truth_moves : TruthMoves
truth_moves p tr d t ok =
    let ur = delayed d tr in
    let s = subst (λ q. Truth p tr t ↔ Truth q ur (clock 1 (ahead d) t)) (same_tree p)
    (truth_by 1 (ahead d) 1 some_one some_one (delayed_counts d tr ok) p t) in
    let e = clock_later d t in
    (λ h. Truth-same p ur e (s.0 h), λ h. s.1 (Truth-same p ur (same_sym e) h))

-- and so does the robustness
pub robustness_moves : RobustnessMoves
robustness_moves p tr d t v ok =
    let ur = delayed d tr in
    let s = subst (λ q. Robustness p tr t v ↔ Robustness q ur (clock 1 (ahead d) t) (stretchᵉ 1 v)) (same_tree p)
    (margins_by 1 (ahead d) 1 some_one some_one (delayed_counts d tr ok) p t v) in
    let e = clock_later d t in
    let w = value_one v in (
      λ h. SupInf-same p (margin_setting ur) v e (value_alike p ur (clock 1 (ahead d) t) (stretchᵉ 1 v) v w (s.0 h)),
      λ h. s.1 (value_alike p ur (clock 1 (ahead d) t) v (stretchᵉ 1 v) (same_symᵉ (stretchᵉ 1 v) v w) (SupInf-same p (margin_setting ur) v (same_sym e) h)),
    )
