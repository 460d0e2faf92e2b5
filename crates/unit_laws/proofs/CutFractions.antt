-- The cut times of a formula within the limits are numbers that the program keeps.
use Rattle.std.proofs.Common.{ℕ, ◌^◌, List, refl, arith, inl, inr, ℤ, pos}
use Rattle.std.specs.Prelude.{◌+ℤ◌}
use Rattle.std.proofs.lemmas.Bool.{cases_lt}
use Rattle.rational.specs.Rational.{negate, subtract}
use Rattle.rational.specs.Time.{Rational, ◌≤ʳ◌, ◌<ʳ◌, ◌≈◌, add, shifted, whole}
use Rattle.rational.proofs.Order.{le_refl, le_of_lt, le_of_same, ge_of_same, le_trans, le_or_lt, lt_irrefl, lt_of_lt_of_le, lt_of_le_of_lt}
use Rattle.rational.proofs.Order.{same_refl, same_sym, same_trans}
use Rattle.rational.proofs.Field.{add_comm, add_subtract, subtract_self, le_add, lt_add_left, same_add}
use Rattle.rational.proofs.Lowest.{has_denominator, denominator_same}
use Rattle.rational.proofs.Mixed.{mixed_shift}
use Rattle.rational.proofs.TimeLemmas.{shifted-add}
use Rattle.stl_syntax.specs.Trace.{Trace, first_time, last_time}
use Rattle.stl_syntax.specs.Formula.{Subformula, subformula}
use Rattle.stl_syntax.specs.Cells as cuts
use Rattle.stl_syntax.specs.Cells.{IsChange, IsCut, root_start, first, last, change, moved}
use Rattle.stl_syntax.specs.declared.node.Node.{Node}
use Rattle.bounds.proofs.NearTimes.{Near, IsNear, IsRare}
use Rattle.unit_laws.proofs.CalmTruth.{HasCalmAtoms, calm}
use Rattle.unit_laws.proofs.SmallFractions.{HasFrac, has_frac, has_whole, at_most_its_own}

-- a distance from a time within which all lies in an open stretch about it
record Room {t : Rational} (n : Near t) : Type 0 where
  distance : Rational
  some : whole (pos 0) <ʳ distance
  within : (u : Rational) → cuts.IsNear distance t u → IsNear n u

add_back : (a b : Rational) → add b (subtract a b) ≈ a
add_back a b = same_trans (add_comm b (subtract a b)) (add_subtract a b)

apart : {a b : Rational} → a <ʳ b → whole (pos 0) <ʳ subtract b a
apart {a} {b} h = lt_of_le_of_lt (ge_of_same (subtract_self a)) (lt_add_left h (le_refl (negate a)))

room_of : {t : Rational} (n : Near t) → Room n
room_of {t} n = elim (le_or_lt (subtract t n.from) (subtract n.to t)) [
  | inl h ↦ by_distance (subtract t n.from) (apart n.before) (le_refl (subtract t n.from)) h
  | inr h ↦ by_distance (subtract n.to t) (apart n.after) (le_of_lt h) (le_refl (subtract n.to t))
]
  where
    above : (e u : Rational) → e ≤ʳ subtract t n.from → t <ʳ add u e → n.from <ʳ u
    above e u a h = elim (le_or_lt u n.from) [
      | inl l ↦ absurd (lt_irrefl (lt_of_lt_of_le h (le_trans (le_add l a) (le_of_same (add_back t n.from)))))
      | inr l ↦ l
    ]

    by_distance : (e : Rational) → whole (pos 0) <ʳ e → e ≤ʳ subtract t n.from → e ≤ʳ subtract n.to t → Room n
    by_distance e some a b = record {
      distance = e;
      some = some;
      within = λ u k. record {
        above = above e u a k.above;
        below = lt_of_lt_of_le k.below (le_trans (le_add (le_refl t) b) (le_of_same (add_back n.to t)));
      };
    }

-- another way to write a number that the program keeps is one
pub frac_same_as : {t u : Rational} → HasFrac t → t ≈ u → HasFrac u
frac_same_as h e = record { frac = h.frac; same = same_trans h.same e }

frac_shifted : (z : ℤ) (u : Rational) → HasFrac u → HasFrac (shifted u z)
frac_shifted z u h = record {
  frac = record {
    whole = h.frac.whole +ℤ z;
    rest = h.frac.rest;
    den = h.frac.den;
    positive = h.frac.positive;
    below = h.frac.below;
    small = h.frac.small;
    lowest = h.frac.lowest;
  };
  same = same_trans (mixed_shift h.frac.whole (h.frac.whole +ℤ z) z h.frac.rest h.frac.den h.frac.positive h.frac.positive refl)
      (same_trans (same_add h.same (same_refl (whole z))) (same_sym (shifted-add u z)));
}

module _ (tr : Trace) (p : Subformula) (atoms : HasCalmAtoms (2 ^ 31) tr p) where
  not_rare : (t : Rational) → IsChange p tr t → ¬ IsRare (2 ^ 31) t
  not_rare t h rare =
      let quiet = calm (2 ^ 31) (omega arith) tr p atoms t rare in
      let room = room_of quiet.near in
      let (u, v, near_u, near_v, in_u, in_v, holds, fails) = h.differ room.distance room.some in
      fails (quiet.alike u v (room.within u near_u) (room.within v near_v) holds)

  -- a time at which the truth changes is one
  pub change_frac : (t : Rational) → IsChange p tr t → HasFrac t
  change_frac t h =
      let d = has_denominator t in
      elim (cases_lt d.0 (2 ^ 60)) [
        | inl small ↦ has_frac t d.0 d.1 small
        | inr large ↦ absurd (not_rare t h (λ x few same. let m = at_most_its_own x d.0 (denominator_same d.0 same d.1) in omega (arith, m, few, large)))
      ]

module _ (nodes : List Node) (tr : Trace) (calms : (i : ℕ) → HasCalmAtoms (2 ^ 31) tr (subformula nodes i)) where
  -- so is each cut time
  pub cut_frac : {i : ℕ} {t : Rational} → IsCut nodes tr i t → HasFrac t
  cut_frac {t = t} (root_start e s) = has_whole t (first_time tr.rows) s
  cut_frac {t = t} (first l s) = has_whole t (first_time tr.rows) s
  cut_frac {t = t} (last l s) = has_whole t (last_time 0 tr.rows) s
  cut_frac {i = i} {t = t} (change l h) = change_frac tr (subformula nodes i) (calms i) t h
  cut_frac (moved {u = u} n k at child m cut s w) = frac_same_as (frac_shifted k u (cut_frac cut)) (same_sym s)
