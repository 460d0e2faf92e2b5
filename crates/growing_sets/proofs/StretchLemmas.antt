-- A stretch begins before it ends.
use Rattle.std.proofs.Common.{◌≡◌, inl, inr, refl, Bool, true, false, not, ◌&&◌}
use Rattle.rational.specs.Time.{HasTimeBetween}
use Rattle.rational.proofs.Order.{lt_or_same_or_gt, not_lt_of_le}
use Rattle.rational.proofs.TimeLemmas.{precedes_of_room}
use Rattle.rational.specs.Places.{Place, Before}
use Rattle.frac128.specs.Cuts.{place}
use Rattle.growing_sets.specs.declared.stretch.Stretch.{Stretch}

-- between two places there is room exactly where the one comes before the other
pub before_of_room : (c d : Place) → HasTimeBetween c.at d.at (not c.after && d.after) → Before c d
before_of_room c d = by_side c.after d.after refl refl
  where
    by_side : (a b : Bool) → c.after ≡ a → d.after ≡ b → HasTimeBetween c.at d.at (not a && b) → Before c d
    by_side true b e f h = inl (precedes_of_room false c.at d.at h)
    by_side false false e f h = inl (precedes_of_room false c.at d.at h)
    by_side false true e f h = elim (lt_or_same_or_gt c.at d.at) [
      | inl l ↦ inl l
      | inr o ↦ elim o [ inl s ↦ inr (s, e, f) | inr l ↦ absurd (not_lt_of_le (precedes_of_room true c.at d.at h) l) ]
    ]

-- a stretch begins before it ends
pub rises : (s : Stretch) → Before (place s.from) (place s.to)
rises s = before_of_room (place s.from) (place s.to) s.not_empty
