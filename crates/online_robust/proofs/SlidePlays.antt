-- What is in play over a chain that has the input's values as far as the window looks is in play over the input.
use Rattle.std.proofs.Common.{◌≡◌, ◌⊎◌, inl, inr, ℤ, Bool, true, false}
use Rattle.std.specs.Prelude.{not, MatchBool}
use Rattle.rational.specs.Rational.{add, whole}
use Rattle.rational.specs.Time.{Rational, Within, shifted, ◌≈◌, ◌≤ʳ◌, ◌<ʳ◌}
use Rattle.rational.specs.Extended.{Affine, Extended}
use Rattle.rational.specs.InPlay.{IsBreakpoint, IsLeftLimit, IsLimitWithin, IsLineOn, IsPart, IsRightLimit, IsValueWithin, start, stop, inner}
use Rattle.rational.specs.Windows.{Function, Window as Times}
use Rattle.rational.proofs.LimitLemmas.{earlier_end, later_end, line_on_part}
use Rattle.rational.proofs.Order.{ge_of_same, le_of_lt, le_of_same, le_refl, le_trans, lt_of_le_of_lt, lt_of_lt_of_le, lt_or_same_or_gt}
use Rattle.rational.proofs.Order.{not_lt_of_le, same_sym, same_trans}
use Rattle.rational.proofs.TimeLemmas.{precedes_after, precedes_before, shifted-add}
use Rattle.pieces.specs.Over.{InPlayOver as InPlaySeen, SeesIn, with_ends}
use Rattle.pieces.proofs.AheadOver.{precedes_of_after}
use Rattle.pieces.proofs.Stretches.{IsOn, breakpoint_along, left_along, part_along, right_along}
use Rattle.online_robust.specs.Slides.{reach_of}
use Rattle.online_robust.specs.Windows.{Holds, InPlayOver, closed}
use Rattle.online_robust.specs.declared.slide.Window.{Window}

-- ---- what is seen

-- a time that is seen between the offsets lies in the window
pub holds_of_sees : (from to begin end : Rational) (w : Window) (t u : Rational) → Within begin end u → SeesIn from to (reach_of w) t u
    → Holds begin end w t u
holds_of_sees from to begin end w t u inside seen = record {
  inside = inside;
  begins = precedes_after w.low_in (shifted t w.low) (add t (whole w.low)) u (le_of_same (shifted-add t w.low))
      (precedes_of_after w.low_in (add t (whole w.low)) u seen.1.0);
  ends = precedes_before w.high_in u (add t (whole w.high)) (shifted t w.high) seen.1.1 (ge_of_same (shifted-add t w.high));
}

-- ---- about one time

-- about the time u what F is over the one domain P is over the other
pub record PlaysOn (F P : Function) (from to begin end u : Rational) : Type 0 where
  -- it lies in the other domain
  pub within : Within begin end u
  -- the one has no breakpoint there that the other has not
  pub breakpoint : IsBreakpoint F from to u → IsBreakpoint P begin end u
  -- nor a value
  pub worth : (v : Extended) → F u v → P u v
  -- nor a limit from the left
  pub left : (v : Extended) → from <ʳ u → IsLeftLimit F u v → (begin <ʳ u) × IsLeftLimit P u v
  -- nor from the right
  pub right : (v : Extended) → u <ʳ to → IsRightLimit F u v → (u <ʳ end) × IsRightLimit P u v
  -- nor a part
  pub part : (line : Affine) → IsPart F u line → IsPart P u line

module _ (F P : Function) (from to begin end f : Rational)
    (inside : (t : Rational) (v : Extended) → F t v → from ≤ʳ t)
    (forth : (t : Rational) (v : Extended) → t ≤ʳ f → F t v → P t v)
    (back : (t : Rational) (v : Extended) → from ≤ʳ t → t ≤ʳ f → P t v → F t v)
    (begins : from ≈ begin) (far : f ≤ʳ to) (by : f ≤ʳ end) where
  line_forth : {a b : Rational} (line : Affine) → b ≤ʳ f → IsLineOn F a b line → IsLineOn P a b line
  line_forth line le on = λ t x y. let h = on t x y in (h.0, forth t h.0 (le_trans (le_of_lt y) le) h.1, h.2)

  part_forth : (u : Rational) (line : Affine) → u <ʳ f → IsPart F u line → IsPart P u line
  part_forth u line lt h =
      let c = earlier_end h.below lt in
      record { a = h.a; b = c.0; above = h.above; below = c.1; on = line_forth line c.3 (line_on_part F line (le_refl h.a) c.2 h.on) }

  part_back : (u : Rational) (line : Affine) → from <ʳ u → u <ʳ f → IsPart P u line → IsPart F u line
  part_back u line after lt h =
      let c = earlier_end h.below lt in
      let d = later_end h.above after in record {
        a = d.0;
        b = c.0;
        above = d.1;
        below = c.1;
        on = λ t x y.
            let k = h.on t (lt_of_le_of_lt d.2 x) (lt_of_lt_of_le y c.2) in
            (k.0, back t k.0 (le_trans d.3 (le_of_lt x)) (le_trans (le_of_lt y) c.3) k.1, k.2);
      }

  breakpoint_forth : (u : Rational) → u <ʳ f → IsBreakpoint F from to u → IsBreakpoint P begin end u
  breakpoint_forth u lt (start e) = start (same_trans e begins)
  breakpoint_forth u lt (stop e) = absurd (not_lt_of_le (le_trans far (ge_of_same e)) lt)
  breakpoint_forth u lt (inner w none) = by_order (lt_or_same_or_gt from u)
    where
      by_order : (from <ʳ u) ⊎ (from ≈ u) ⊎ (u <ʳ from) → IsBreakpoint P begin end u
      by_order (inl after) = inner (record { above = le_trans (ge_of_same begins) w.above; below = le_trans (le_of_lt lt) by })
          (λ line p. none line (part_back u line after lt p))
      by_order (inr (inl e)) = start (same_trans (same_sym e) begins)
      by_order (inr (inr below)) = absurd (not_lt_of_le w.above below)

  -- before the time up to which they are the same
  pub plays_before : (u : Rational) → from ≤ʳ u → u <ʳ f → PlaysOn F P from to begin end u
  plays_before u above lt = record {
    within = record { above = le_trans (ge_of_same begins) above; below = le_trans (le_of_lt lt) by };
    breakpoint = breakpoint_forth u lt;
    worth = λ v h. forth u v (le_of_lt lt) h;
    left = λ v after h. (
      lt_of_le_of_lt (ge_of_same begins) after,
      record { a = h.a; above = h.above; line = h.line; on = line_forth h.line (le_of_lt lt) h.on; value = h.value },
    );
    right = λ v before h. (
      lt_of_lt_of_le lt by,
      (let c = earlier_end h.below lt in
          record { b = c.0; below = c.1; line = h.line; on = line_forth h.line c.3 (line_on_part F h.line (le_refl u) c.2 h.on); value = h.value }),
    );
    part = λ line h. part_forth u line lt h;
  }

-- in the whole of a domain, where they are the same throughout
pub plays_in : (F P : Function) (from to begin end : Rational) → IsOn from to F P → from ≈ begin → to ≈ end → (u : Rational) → Within from to u
    → PlaysOn F P from to begin end u
plays_in F P from to begin end on begins ends u w = record {
  within = over u w;
  breakpoint = λ h. again (breakpoint_along from to F P on h);
  worth = λ v h. on.forth u v h;
  left = λ v after h. (lt_of_le_of_lt (ge_of_same begins) after, left_along from to F P on h);
  right = λ v before h. (lt_of_lt_of_le before (le_of_same ends), right_along from to F P on h);
  part = λ line h. part_along from to F P on h;
}
  where
    over : (u : Rational) → Within from to u → Within begin end u
    over u w = record { above = le_trans (ge_of_same begins) w.above; below = le_trans w.below (le_of_same ends) }

    again : {u : Rational} → IsBreakpoint P from to u → IsBreakpoint P begin end u
    again (start e) = start (same_trans e begins)
    again (stop e) = stop (same_trans e ends)
    again {u} (inner w none) = inner (over u w) none

-- ---- over the window

module _ (F P : Function) (from to begin end : Rational) (w : Window) (tau : Rational) (line : Affine)
    (seen : (u : Rational) → SeesIn from to (with_ends (reach_of w)) tau u → PlaysOn F P from to begin end u)
    (at_end : (k : ℤ) → (k ≡ w.low) ⊎ (k ≡ w.high) → Within from to (shifted tau k) → PlaysOn F P from to begin end (shifted tau k)) where
  -- what is seen through open ends is seen through closed ones
  close : (u : Rational) → SeesIn from to (reach_of w) tau u → SeesIn from to (with_ends (reach_of w)) tau u
  close u h = (h.0, (ends_in (not w.low_in) (add tau (whole w.low)) u h.1.0, high_in w.high_in (add tau (whole w.high)) u h.1.1))
    where
      ends_in : (b : Bool) (c u : Rational) → MatchBool b (c <ʳ u) (c ≤ʳ u) → c ≤ʳ u
      ends_in true c u h = le_of_lt h
      ends_in false c u h = h

      high_in : (b : Bool) (c u : Rational) → MatchBool b (u ≤ʳ c) (u <ʳ c) → u ≤ʳ c
      high_in true c u h = h
      high_in false c u h = le_of_lt h

  holds : (u : Rational) → SeesIn from to (reach_of w) tau u → Holds begin end w tau u
  holds u h = holds_of_sees from to begin end w tau u (seen u (close u h)).within h

  holds_closed : (u : Rational) → SeesIn from to (with_ends (reach_of w)) tau u → Holds begin end (closed w) tau u
  holds_closed u h = holds_of_sees from to begin end (closed w) tau u (seen u h).within h

  value_seen : (W : Times) → ((u : Rational) → SeesIn from to (reach_of w) tau u → W u) → IsValueWithin F from to (SeesIn from to (reach_of w) tau) line
      → IsValueWithin P begin end W line
  value_seen W into (u, at, h, v, is, constant) =
      let p = seen u (close u h) in (u, p.breakpoint at, into u h, v, p.worth v is, constant)

  limit_seen : (C : Times) → ((u : Rational) → SeesIn from to (with_ends (reach_of w)) tau u → C u)
      → IsLimitWithin F from to (SeesIn from to (with_ends (reach_of w)) tau) (λ u. shifted tau w.low <ʳ u) (λ u. u <ʳ shifted tau w.high) line
      → IsLimitWithin P begin end C (λ u. shifted tau w.low <ʳ u) (λ u. u <ʳ shifted tau w.high) line
  limit_seen C into (u, at, h, v, side, constant) =
      let p = seen u h in (u, p.breakpoint at, into u h, v, by_side side, constant)
    where
      by_side : ((from <ʳ u) × (shifted tau w.low <ʳ u) × IsLeftLimit F u v) ⊎ ((u <ʳ to) × (u <ʳ shifted tau w.high) × IsRightLimit F u v)
          → ((begin <ʳ u) × (shifted tau w.low <ʳ u) × IsLeftLimit P u v) ⊎ ((u <ʳ end) × (u <ʳ shifted tau w.high) × IsRightLimit P u v)
      by_side (inl (after, goes, limit)) = let l = (seen u h).left v after limit in inl (l.0, goes, l.1)
      by_side (inr (before, goes, limit)) = let r = (seen u h).right v before limit in inr (r.0, goes, r.1)

  -- what is in play over the chain is in play over the input
  pub in_play_seen : InPlaySeen F from to (reach_of w) tau line → InPlayOver P begin end w tau line
  in_play_seen (has, inl (k, is, old, within, part, moved)) =
      let p = at_end k is within in ((has.0, holds has.0 has.1), inl (k, is, old, p.within, p.part old part, moved))
  in_play_seen (has, inr (inl h)) = ((has.0, holds has.0 has.1), inr (inl (value_seen (Holds begin end w tau) holds h)))
  in_play_seen (has, inr (inr h)) = ((has.0, holds has.0 has.1), inr (inr (limit_seen (Holds begin end (closed w) tau) holds_closed h)))
