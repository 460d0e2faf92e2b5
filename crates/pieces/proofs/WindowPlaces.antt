-- The places at which a window comes to a place and leaves it, in a domain.
use Rattle.std.proofs.Common.{arith, ◌≡◌, ◌⊎◌, inl, inr, ◌^◌, ℤ, pos, neg_ℤ, sym, subst}
use Rattle.std.specs.Prelude.{◌≤ℤ◌}
use Rattle.rational.specs.Rational.{IsWithin}
use Rattle.rational.specs.Time.{Rational, ◌≤ʳ◌, ◌≈◌, add, whole}
use Rattle.rational.specs.Places.{Place, After, Before, AtMost, Same, moved_begin, moved_end}
use Rattle.rational.proofs.Order.{same_sym}
use Rattle.rational.proofs.Mixed.{within_more, within_same}
use Rattle.rational.proofs.PlaceLemmas.{not_both, after_same, upto_same, same_places}
use Rattle.frac128.specs.Cuts.{place}
use Rattle.pieces.specs.declared.reach.Way.{Way}
use Rattle.pieces.specs.Windows.{IsLeft, IsReached, IsSmall, high_place}
use Rattle.pieces.proofs.Shifts.{high_from, high_to, low_from, low_to, turned_from, turned_to, within_sum}
use Rattle.pieces.proofs.WindowEnds.{begins_before, ends_past}

-- a time of a domain moved by an offset lies within limits
moved_within : (a r : Rational) (z : ℤ) → whole (pos 0) ≤ʳ a → a ≤ʳ whole (pos (2 ^ 32)) → neg_ℤ (pos (2 ^ 32)) ≤ℤ z → z ≤ℤ pos (2 ^ 32)
    → r ≈ add a (whole z) → IsWithin (2 ^ 34) r
moved_within a r z from to low high is = within_same (2 ^ 34) (same_sym is) (within_more (2 ^ 33) (2 ^ 34) (omega arith) (within_sum a z from to low high))

module _ (way : Way) (small : IsSmall way.over) (c : Place) (first : whole (pos 0) ≤ʳ c.at) (last : c.at ≤ʳ whole (pos (2 ^ 32)))
    (to_within : IsWithin (2 ^ 34) (place way.to).at) where
  -- the place up to which the window begins before the place c
  pub left_in : (leaving e : Place) → Same leaving (moved_end (neg_ℤ way.over.low) way.over.low_in c) → AtMost e leaving → AtMost e (place way.to)
      → (e ≡ leaving) ⊎ (e ≡ place way.to) → IsLeft way c e
  left_in leaving e is a b one = record {
    upto = λ t u. ((begins_before way.over.low way.over.low_in c t).0 (upto_same leaving (moved_end (neg_ℤ way.over.low) way.over.low_in c) t is (a t u)), b t u);
    after = λ t x u k. elim one [
      | inl h ↦ not_both leaving t (upto_same (moved_end (neg_ℤ way.over.low) way.over.low_in c) leaving t (same_places is)
          ((begins_before way.over.low way.over.low_in c t).1 k)) (subst (λ r. After r t) h x)
      | inr h ↦ not_both (place way.to) t u (subst (λ r. After r t) h x)
    ];
    within = elim one [
      | inl h ↦ subst (λ r. IsWithin (2 ^ 34) r.at) (sym h) (moved_within c.at leaving.at (neg_ℤ way.over.low) first last
          (turned_from way.over small way.over.low (low_to way.over small)) (turned_to way.over small way.over.low (low_from way.over small)) is.0)
      | inr h ↦ subst (λ r. IsWithin (2 ^ 34) r.at) (sym h) to_within
    ];
  }

  module _ (entering : Place) (is : Same entering (moved_begin (neg_ℤ way.over.high) way.over.high_in c)) where
    -- behind the place at which it comes to c it ends behind it
    pub reached_past : (t : Rational) → After entering t → Before c (high_place way.over.high way.over.high_in t)
    reached_past t a = (ends_past way.over.high way.over.high_in c t).0 (after_same entering (moved_begin (neg_ℤ way.over.high) way.over.high_in c) t is a)

    -- and up to there it ends no later
    pub reached_in : (e : Place) → AtMost e entering → AtMost e (place way.to) → (e ≡ entering) ⊎ (e ≡ place way.to) → IsReached way c e
    reached_in e a b one = record {
      upto = b;
      before = λ t u k. not_both entering t (a t u) (after_same (moved_begin (neg_ℤ way.over.high) way.over.high_in c) entering t (same_places is)
          ((ends_past way.over.high way.over.high_in c t).1 k));
      after = λ t x u. elim one [
        | inl h ↦ reached_past t (subst (λ r. After r t) h x)
        | inr h ↦ absurd (not_both (place way.to) t u (subst (λ r. After r t) h x))
      ];
      within = elim one [
        | inl h ↦ subst (λ r. IsWithin (2 ^ 34) r.at) (sym h) (moved_within c.at entering.at (neg_ℤ way.over.high) first last
            (turned_from way.over small way.over.high (high_to way.over small)) (turned_to way.over small way.over.high (high_from way.over small)) is.0)
        | inr h ↦ subst (λ r. IsWithin (2 ^ 34) r.at) (sym h) to_within
      ];
    }
