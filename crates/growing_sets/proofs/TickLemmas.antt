-- A time among the places: just before it and just after it.
use Rattle.std.proofs.Common.{◌≡◌, ◌⊎◌, inl, inr, true, false, Bool, refl, ℤ, pos}
use Rattle.std.specs.Prelude.{MatchBool, ◌<ℤ◌, ◌≤ℤ◌, IsTrue}
use Rattle.rational.specs.Rational.{Rational, ◌≤ʳ◌, ◌<ʳ◌, ◌≈◌, whole}
use Rattle.rational.proofs.Order.{lt_or_same_or_gt, le_or_lt, le_trans, le_of_same, ge_of_same, same_of_le, not_lt_of_le}
use Rattle.rational.proofs.Field.{add_zero}
use Rattle.rational.proofs.Shift.{le_whole}
use Rattle.rational.specs.Places.{Place, After, Upto, Before, Same}
use Rattle.frac128.specs.Cuts.{place}
use Rattle.growing_sets.specs.Spans.{Lies}
use Rattle.time_sets.specs.Parts.{low_place, high_place}
use Rattle.growing_sets.specs.Steps.{HoldsFrom}
use Rattle.growing_sets.specs.declared.stretch.Stretch.{Stretch}
use Rattle.growing_sets.specs.declared.window.Window.{Window}
use Rattle.rational.proofs.PlaceLemmas.{sides, not_both, between, before_through, same_before, same_places, upto_earlier}
use Rattle.rational.proofs.PlaceLemmas.{after_later}
use Rattle.time_sets.proofs.WindowPlaces.{room_in, room_out}

-- the place just before a time comes before each place that the time does not lie after
pub before_time : (c : Place) (t : Rational) → Upto c t → Before (record { at = t; after = false }) c
before_time c t = by_side c.after refl
  where
    by_side : (b : Bool) → c.after ≡ b → MatchBool b (t ≤ʳ c.at) (t <ʳ c.at) → (t <ʳ c.at) ⊎ ((t ≈ c.at) × (false ≡ false) × (c.after ≡ true))
    by_side true e h = elim (lt_or_same_or_gt t c.at) [
      | inl l ↦ inl l
      | inr o ↦ elim o [ inl s ↦ inr (s, refl, e) | inr l ↦ absurd (not_lt_of_le h l) ]
    ]
    by_side false e h = inl h

-- and the place just after it after each that it lies after
pub after_time : (c : Place) (t : Rational) → After c t → Before c (record { at = t; after = true })
after_time c t = by_side c.after refl
  where
    by_side : (b : Bool) → c.after ≡ b → MatchBool b (c.at <ʳ t) (c.at ≤ʳ t) → (c.at <ʳ t) ⊎ ((c.at ≈ t) × (c.after ≡ false) × (true ≡ true))
    by_side true e h = inl h
    by_side false e h = elim (lt_or_same_or_gt c.at t) [
      | inl l ↦ inl l
      | inr o ↦ elim o [ inl s ↦ inr (s, e, refl) | inr l ↦ absurd (not_lt_of_le h l) ]
    ]

-- a stretch has a time exactly where it holds the times just after the place just before it
pub at_time : (s : Stretch) (c : Place) (t : Rational) → Same c (record { at = t; after = false }) → HoldsFrom s c → Lies s t
at_time s c t is h = (
  elim (sides (place s.from) t) [
    | inl u ↦ absurd (h.0 (same_before c (record { at = t; after = false }) (place s.from) is (before_time (place s.from) t u)))
    | inr a ↦ a
  ],
  let v = between (record { at = t; after = false }) (place s.to)
      (same_before (record { at = t; after = false }) c (place s.to) (same_places is) h.1) in
      upto_earlier (place s.to) t v.0 v.1 v.2,
)

-- a stretch that has a time holds from just before it
pub from_time : (s : Stretch) (c : Place) (t : Rational) → Same c (record { at = t; after = false }) → Lies s t → HoldsFrom s c
from_time s c t is l = (
  λ b.
      let v = between (record { at = t; after = false }) (place s.from)
      (same_before (record { at = t; after = false }) c (place s.from) (same_places is) b) in
      not_both (place s.from) v.0 v.2 (after_later (place s.from) t v.0 v.1 l.0),
  same_before c (record { at = t; after = false }) (place s.to) is (before_time (place s.to) t l.1),
)

-- a tick comes no later than another
pub ticks_rise : (m n : ℤ) → m ≤ℤ n → Before (record { at = whole m; after = false }) (record { at = whole n; after = true })
ticks_rise m n h = elim (le_or_lt (whole n) (whole m)) [
  | inl l ↦ inr (same_of_le (le_whole h) l, refl, refl)
  | inr l ↦ inl l
]

-- a window that begins by the time itself, and ends by it
begins_by_it : (w : Window) (k : ℤ) (t : Rational) → Before (low_place k w.low_in t) (high_place (pos 0) true t) → After (low_place k w.low_in t) t
begins_by_it w k t b =
    let v = between (low_place k w.low_in t) (high_place (pos 0) true t) b in
    after_later (low_place k w.low_in t) v.0 t (le_trans v.2 (le_of_same (add_zero t))) v.1

ends_by_it : (w : Window) (t : Rational) → Before (low_place (pos 0) true t) (high_place w.high w.high_in t) → Upto (high_place w.high w.high_in t) t
ends_by_it w t b =
    let v = between (low_place (pos 0) true t) (high_place w.high w.high_in t) b in
    upto_earlier (high_place w.high w.high_in t) t v.0 (le_trans (ge_of_same (add_zero t)) v.1) v.2

-- a window that looks ahead, or at now, ends no earlier than now
pub ends_at : (w : Window) (t : Rational) → (pos 0 <ℤ w.high) ⊎ ((pos 0 ≡ w.high) × IsTrue true × IsTrue w.high_in) → Upto (high_place w.high w.high_in t) t
ends_at w t r = ends_by_it w t (room_in (pos 0) w.high true w.high_in t r)

-- a window that begins behind, or at now, begins no later than now
pub begins_at : (w : Window) (k : ℤ) (t : Rational) → (k <ℤ pos 0) ⊎ ((k ≡ pos 0) × IsTrue w.low_in × IsTrue true) → After (low_place k w.low_in t) t
begins_at w k t r = begins_by_it w k t (room_in k (pos 0) w.low_in true t r)

-- where a time does not lie behind its window's end the upper bound is above 0, or 0 with its end in
pub ended_at : (w : Window) (t : Rational) → Upto (high_place w.high w.high_in t) t → (pos 0 <ℤ w.high) ⊎ ((pos 0 ≡ w.high) × IsTrue true × IsTrue w.high_in)
ended_at w t h =
    room_out (pos 0) w.high true w.high_in t
    (before_through (low_place (pos 0) true t) (high_place w.high w.high_in t) t (le_of_same (add_zero t)) h)

-- where a time lies behind its window's begin the lower bound is below 0, or 0 with its end in
pub begun_at : (w : Window) (k : ℤ) (t : Rational) → After (low_place k w.low_in t) t → (k <ℤ pos 0) ⊎ ((k ≡ pos 0) × IsTrue w.low_in × IsTrue true)
begun_at w k t h =
    room_out k (pos 0) w.low_in true t (before_through (low_place k w.low_in t) (high_place (pos 0) true t) t h (ge_of_same (add_zero t)))
