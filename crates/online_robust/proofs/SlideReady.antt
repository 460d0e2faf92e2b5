-- The chain of all that a window's input has told so far, and behind it what no window sees.
use Rattle.std.proofs.Common.{◌≡◌, ◌⊎◌, inl, inr, ◌≤◌, ◌^◌, Bool, true, false, List, [], ◌∷◌, ◌++◌, sym, subst, arith, pos, ◌<ℤ◌}
use Rattle.std.specs.Prelude.{MatchBool}
use Rattle.rational.specs.Rational.{IsWithin, whole}
use Rattle.rational.specs.Time.{Rational, ◌≈◌, ◌≤ʳ◌, ◌<ʳ◌}
use Rattle.rational.specs.Extended.{Extended, minus_infinity}
use Rattle.rational.specs.Affine.{IsBounded}
use Rattle.rational.specs.Places.{Place, After, AtMost, Before, Same, Upto}
use Rattle.rational.proofs.AffineLemmas.{bounded_same}
use Rattle.rational.proofs.Mixed.{within_same}
use Rattle.rational.proofs.Order.{ge_of_same, le_of_same, le_trans, not_lt_of_le, same_refl, same_sym}
use Rattle.rational.proofs.PlaceLemmas.{same_places, upto_same}
use Rattle.rational.proofs.Shift.{le_whole}
use Rattle.frac128.specs.Cuts.{place}
use Rattle.value_laws.specs.Kinds.{margin_shape}
use Rattle.value_laws.specs.declared.margin.Margin.{Margin}
use Rattle.pieces.specs.declared.piece.Piece.{Piece}
use Rattle.pieces.specs.declared.reach.Way.{Way}
use Rattle.pieces.specs.Chains.{HasShape, IsWorth, stop_from}
use Rattle.pieces.specs.Streaming.{before_time}
use Rattle.pieces.specs.Windows.{IsSmall}
use Rattle.pieces.proofs.ChainLemmas.{rise_append, shape_in, stop_append, worth_front, worth_in}
use Rattle.stl_syntax.specs.Trace.{start, stop as last_of}
use Rattle.online_robust.specs.Slides.{ArePart, Course, IsWayOf, IsWhole, after_time, chain_of, high_at, input, reach_of}
use Rattle.online_robust.specs.Told.{IsMovedBy, IsTick}
use Rattle.online_robust.proofs.Builts.{tick_within}
use Rattle.online_robust.proofs.Robustly.{robust_is_function}
use Rattle.online_robust.proofs.SlideWhole.{low_moved, near_moved, nothing_up_to, part_back}

-- a time that is not earlier lies behind a place just before its time
pub closed_after : (c : Place) (t : Rational) → c.after ≡ false → c.at ≤ʳ t → After c t
closed_after c t = by_side c.after
  where
    by_side : (b : Bool) → b ≡ false → c.at ≤ʳ t → MatchBool b (c.at <ʳ t) (c.at ≤ʳ t)
    by_side false e h = h
    by_side true e h = absurd (let z : true ≡ false = e in cc)

module _ (x : Course) (way : Way) (is_way : IsWayOf x.window way) (small : IsSmall (reach_of x.window)) (begins : Same x.from (before_time (start x.trace)))
    (first : IsTick (start x.trace)) (few : x.reach ≤ 4294967295) (to_tick : IsTick x.to) (by : x.front ≤ʳ last_of x.trace) (qs : List (Piece Margin))
    (part : ArePart (input x) x.reach x.from qs) where
  way_within : IsWithin (2 ^ 34) (place way.to).at
  way_within = within_same (2 ^ 34) (same_sym is_way.to.0) (tick_within
      (le_whole {j = pos 0} {k = pos 4294967295} (omega arith), le_of_same (same_refl (whole (pos 4294967295)))))

  from_within : IsWithin (2 ^ 34) x.from.at
  from_within = within_same (2 ^ 34) (same_sym begins.0) (tick_within first)

  from_first : whole (pos 0) ≤ʳ x.from.at
  from_first = le_trans first.0 (ge_of_same begins.0)

  small_way : IsSmall way.over
  small_way = subst IsSmall (sym is_way.over) small

  -- where the chain ends with the front
  module _ (ends : Same (stop_from x.from qs) (after_time x.front)) (tick : x.front ≤ʳ whole (pos 4294967295)) (far : x.to ≤ʳ x.front)
      (ended : (high_at x ≤ʳ x.front) ⊎ (Same (stop_from x.from qs) (after_time (last_of x.trace)) × (last_of x.trace ≤ʳ x.front)
      × (x.to ≈ last_of x.trace))) where
    to_way : AtMost (stop_from x.from qs) (place way.to)
    to_way t u = upto_same (after_time (whole (pos 4294967295))) (place way.to) t (same_places is_way.to)
        (le_trans (upto_same (stop_from x.from qs) (after_time x.front) t ends u) tick)

    pub exact_whole : IsWhole x way (chain_of x.from qs)
    exact_whole = record {
      can = record {
        can = record {
          rising = part.rise;
          limited = record {
            begins = from_within;
            ends = within_same (2 ^ 34) (same_sym ends.0) (tick_within (le_trans to_tick.0 far, tick));
            values = λ t v w. (part.worth t v w).1;
          };
          near = λ p h. near_moved x.reach p few (part.moved p h);
          first = from_first;
          last = le_trans (le_trans (le_of_same ends.0) tick) (le_whole {j = pos 4294967295} {k = pos (2 ^ 32)} (omega arith));
          small = small_way;
        };
        to = to_way;
        within = way_within;
      };
      begins = begins;
      forth = λ t v k w. (part.worth t v w).0;
      back = λ t v h k p. part_back (input x) (robust_is_function x.formula x.trace) x.reach x.from qs part t v
          (closed_after x.from t begins.1 (le_trans (le_of_same begins.0) h))
          (upto_same (after_time x.front) (stop_from x.from qs) t (same_places ends) k) p;
      moved = part.moved;
      reaches = le_trans far (ge_of_same ends.0);
      far = ge_of_same ends.0;
      by = by;
      ahead = λ h. le_trans (le_of_same ends.0) by;
      ended = ended;
    }

  -- where something follows that is not seen
  module _ (later : Before (stop_from x.from qs) (place way.to)) (told : high_at x ≤ʳ x.front)
      (behind : (t : Rational) → After (stop_from x.from qs) t → x.front <ʳ t)
      (upto : (t : Rational) → After x.from t → t ≤ʳ x.front → Upto (stop_from x.from qs) t) (level : pos 0 <ℤ x.window.high → ⊥)
      (tick : x.front ≤ʳ whole (pos 4294967295)) where
    abbrev filler : List (Piece Margin)
    filler = nothing_up_to way.to ∷ []

    stop_is : stop_from x.from (qs ++ filler) ≡ place way.to
    stop_is = stop_append x.from qs filler

    by_worth : (t : Rational) (v : Extended) → IsWorth margin_shape (chain_of x.from (qs ++ filler)) t v
        → IsWorth margin_shape (chain_of x.from qs) t v ⊎ IsWorth margin_shape (chain_of (stop_from x.from qs) filler) t v
    by_worth t v w = worth_in margin_shape x.from qs filler t v w

    bounded : (t : Rational) (v : Extended) → IsWorth margin_shape (chain_of x.from (qs ++ filler)) t v → IsBounded (2 ^ 31) v
    bounded t v w = by_part (by_worth t v w)
      where
        by_part : IsWorth margin_shape (chain_of x.from qs) t v ⊎ IsWorth margin_shape (chain_of (stop_from x.from qs) filler) t v → IsBounded (2 ^ 31) v
        by_part (inl h) = (part.worth t v h).1
        by_part (inr (inl h)) = bounded_same (2 ^ 31) v minus_infinity h.2 tt
        by_part (inr (inr h)) = absurd h

    moved : (p : Margin) → HasShape (chain_of x.from (qs ++ filler)) p → IsMovedBy x.reach p
    moved p h = by_shape (shape_in qs filler p h)
      where
        by_shape : HasShape (chain_of x.from qs) p ⊎ HasShape (chain_of x.from filler) p → IsMovedBy x.reach p
        by_shape (inl k) = part.moved p k
        by_shape (inr (inl e)) = subst (IsMovedBy x.reach) (sym e) (low_moved x.reach)
        by_shape (inr (inr k)) = absurd k

    pub filled_whole : IsWhole x way (chain_of x.from (qs ++ filler))
    filled_whole = record {
      can = record {
        can = record {
          rising = rise_append x.from qs filler part.rise (later, tt);
          limited = record { begins = from_within; ends = subst (λ c. IsWithin (2 ^ 34) c.at) (sym stop_is) way_within; values = bounded };
          near = λ p h. near_moved x.reach p few (moved p h);
          first = from_first;
          last = subst (λ c. c.at ≤ʳ whole (pos (2 ^ 32))) (sym stop_is)
              (le_trans (le_of_same is_way.to.0) (le_whole {j = pos 4294967295} {k = pos (2 ^ 32)} (omega arith)));
          small = small_way;
        };
        to = subst (λ c. AtMost c (place way.to)) (sym stop_is) (λ t u. u);
        within = way_within;
      };
      begins = begins;
      forth = λ t v k w. by_part t v k (by_worth t v w);
      back = λ t v h k p.
          let after = closed_after x.from t begins.1 (le_trans (le_of_same begins.0) h) in
          worth_front margin_shape x.from qs filler t v (part_back (input x) (robust_is_function x.formula x.trace) x.reach x.from qs part t v after
          (upto t after k) p);
      moved = moved;
      reaches = subst (λ c. x.to ≤ʳ c.at) (sym stop_is) (le_trans to_tick.1 (ge_of_same is_way.to.0));
      far = subst (λ c. x.front ≤ʳ c.at) (sym stop_is) (le_trans tick (ge_of_same is_way.to.0));
      by = by;
      ahead = λ h. absurd (level h);
      ended = inl told;
    }
      where
        by_part : (t : Rational) (v : Extended) → t ≤ʳ x.front
            → IsWorth margin_shape (chain_of x.from qs) t v ⊎ IsWorth margin_shape (chain_of (stop_from x.from qs) filler) t v → input x t v
        by_part t v k (inl h) = (part.worth t v h).0
        by_part t v k (inr (inl h)) = absurd (not_lt_of_le k (behind t h.0))
        by_part t v k (inr (inr h)) = absurd h
