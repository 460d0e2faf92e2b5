-- A verdict begins before it ends, and so does what it is joined to.
use Rattle.std.proofs.Common.{◌≡◌, inl, inr, refl, subst, Bool, true, false, not, ◌&&◌}
use Rattle.rational.specs.Rational.{◌≤ʳ◌}
use Rattle.rational.specs.Time.{HasTimeBetween}
use Rattle.rational.specs.Places.{begins, ends, Before}
use Rattle.rational.proofs.Order.{le_of_same, le_trans, lt_of_lt_of_le, lt_or_same_or_gt, not_lt_of_le}
use Rattle.rational.proofs.PlaceLemmas.{before_trans, le_of_before, room_of_before, same_before}
use Rattle.rational.proofs.TimeLemmas.{precedes_of_room}
use Rattle.frac128.specs.Spans.{interval}
use Rattle.frac128.specs.Value.{value}
use Rattle.stl_syntax.specs.declared.items.Verdict.{Verdict}
use Rattle.node_edges.specs.Verdicts.{GoesOn}

-- each verdict begins before it ends
pub some_verdict : (v : Verdict) → Before (begins (interval v.on)) (ends (interval v.on))
some_verdict v = by_ends v.on.from_in v.on.to_in v.on.not_empty
  where
    by_ends : (a b : Bool) → HasTimeBetween (value v.on.from) (value v.on.to) (a && b)
        → Before (record { at = value v.on.from; after = not a }) (record { at = value v.on.to; after = b })
    by_ends false b h = inl (precedes_of_room false (value v.on.from) (value v.on.to) h)
    by_ends true false h = inl (precedes_of_room false (value v.on.from) (value v.on.to) h)
    by_ends true true h = elim (lt_or_same_or_gt (value v.on.from) (value v.on.to)) [
      | inl l ↦ inl l
      | inr o ↦ elim o [
        | inl s ↦ inr (s, refl, refl)
        | inr l ↦ absurd (not_lt_of_le (precedes_of_room true (value v.on.from) (value v.on.to) h) l)
      ]
    ]

-- a verdict may end at the time at which one that goes on from it ends, and be in or out there as it was
pub room_midway : {v w : Verdict} → GoesOn v w → HasTimeBetween (value v.on.from) (value w.on.to) (v.on.from_in && v.on.to_in)
room_midway {v} {w} on =
    subst (λ b. HasTimeBetween (value v.on.from) (value w.on.to) (b && v.on.to_in)) (twice v.on.from_in)
    (room_of_before (begins (interval v.on)) (record { at = value w.on.to; after = v.on.to_in }) (by_end (some_verdict v)))
  where
    twice : (b : Bool) → not (not b) ≡ b
    twice true = refl
    twice false = refl

    later : value v.on.to ≤ʳ value w.on.to
    later = le_of_before (ends (interval v.on)) (ends (interval w.on))
        (same_before (ends (interval v.on)) (begins (interval w.on)) (ends (interval w.on)) on.touch (some_verdict w))

    by_end : Before (begins (interval v.on)) (ends (interval v.on))
        → Before (begins (interval v.on)) (record { at = value w.on.to; after = v.on.to_in })
    by_end (inl l) = inl (lt_of_lt_of_le l later)
    by_end (inr (s, e, f)) = elim (lt_or_same_or_gt (value v.on.from) (value w.on.to)) [
      | inl l ↦ inl l
      | inr o ↦ elim o [ inl r ↦ inr (r, e, f) | inr l ↦ absurd (not_lt_of_le (le_trans (le_of_same s) later) l) ]
    ]

-- two verdicts of which the second goes on from the first have times from where that begins to where this ends
pub room_of_both : {v w : Verdict} → GoesOn v w → HasTimeBetween (value v.on.from) (value w.on.to) (v.on.from_in && w.on.to_in)
room_of_both {v} {w} on =
    subst (λ b. HasTimeBetween (value v.on.from) (value w.on.to) (b && w.on.to_in)) (twice v.on.from_in)
    (room_of_before (begins (interval v.on)) (ends (interval w.on))
    (before_trans (begins (interval v.on)) (ends (interval v.on)) (ends (interval w.on)) (some_verdict v)
    (same_before (ends (interval v.on)) (begins (interval w.on)) (ends (interval w.on)) on.touch (some_verdict w))))
  where
    twice : (b : Bool) → not (not b) ≡ b
    twice true = refl
    twice false = refl
