-- Times behind and before places.
use Rattle.std.proofs.Common.{◌≡◌, inl, inr, Bool, true, false, refl, sym}
use Rattle.std.specs.Prelude.{MatchBool}
use Rattle.std.proofs.lemmas.Bool.{false≢true}
use Rattle.rational.specs.Time.{Rational, ◌≤ʳ◌, ◌<ʳ◌, ◌≈◌}
use Rattle.rational.specs.Places.{Place, After, Upto, Before, Same, AtMost}
use Rattle.rational.proofs.Order.{le_refl, le_of_lt, le_trans, le_of_same, ge_of_same, lt_of_lt_of_le, lt_of_le_of_lt, same_of_le, same_refl, same_sym}
use Rattle.rational.proofs.PlaceLemmas.{upto_of_before, upto_same}

-- what lies behind a place is no earlier than its time
pub after_le : (c : Place) (t : Rational) → After c t → c.at ≤ʳ t
after_le c t = by_side c.after
  where
    by_side : (b : Bool) → MatchBool b (c.at <ʳ t) (c.at ≤ʳ t) → c.at ≤ʳ t
    by_side true h = le_of_lt h
    by_side false h = h

-- what lies before a place is no later than its time
pub upto_le : (c : Place) (t : Rational) → Upto c t → t ≤ʳ c.at
upto_le c t = by_side c.after
  where
    by_side : (b : Bool) → MatchBool b (t ≤ʳ c.at) (t <ʳ c.at) → t ≤ʳ c.at
    by_side true h = h
    by_side false h = le_of_lt h

-- what is later than a place's time lies behind it
pub after_of_lt : (c : Place) (t : Rational) → c.at <ʳ t → After c t
after_of_lt c t h = by_side c.after
  where
    by_side : (b : Bool) → MatchBool b (c.at <ʳ t) (c.at ≤ʳ t)
    by_side true = h
    by_side false = le_of_lt h

-- what is earlier lies before it
pub upto_of_lt : (c : Place) (t : Rational) → t <ʳ c.at → Upto c t
upto_of_lt c t h = by_side c.after
  where
    by_side : (b : Bool) → MatchBool b (t ≤ʳ c.at) (t <ʳ c.at)
    by_side true = le_of_lt h
    by_side false = h

-- by another pair for the time
pub after_time_same : (c : Place) (t u : Rational) → t ≈ u → After c t → After c u
after_time_same c t u e = by_side c.after
  where
    by_side : (b : Bool) → MatchBool b (c.at <ʳ t) (c.at ≤ʳ t) → MatchBool b (c.at <ʳ u) (c.at ≤ʳ u)
    by_side true h = lt_of_lt_of_le h (le_of_same e)
    by_side false h = le_trans h (le_of_same e)

-- the same of a time that lies before the place
pub upto_time_same : (c : Place) (t u : Rational) → t ≈ u → Upto c t → Upto c u
upto_time_same c t u e = by_side c.after
  where
    by_side : (b : Bool) → MatchBool b (t ≤ʳ c.at) (t <ʳ c.at) → MatchBool b (u ≤ʳ c.at) (u <ʳ c.at)
    by_side true h = le_trans (ge_of_same e) h
    by_side false h = lt_of_le_of_lt (ge_of_same e) h

-- between two places at one time there is that time alone
pub only_time : (c d : Place) (t : Rational) → c.at ≈ d.at → After c t → Upto d t → t ≈ d.at
only_time c d t e a u = same_of_le (upto_le d t u) (le_trans (ge_of_same e) (after_le c t a))

-- a place is at most itself, and at most each that it comes before, or that is the same
pub at_most_itself : (c : Place) → AtMost c c
at_most_itself c t u = u

-- a place is at most each that it comes before
pub at_most_of_before : (c d : Place) → Before c d → AtMost c d
at_most_of_before c d h t u = upto_of_before c d t h u

-- and at most each that is the same
pub at_most_of_same : (c d : Place) → Same c d → AtMost c d
at_most_of_same c d h t u = upto_same c d t h u

-- a place that is at most one that is at most a third is at most that
pub at_most_trans : (c d e : Place) → AtMost c d → AtMost d e → AtMost c e
at_most_trans c d e h k t u = k t (h t u)

-- a place is the same as itself
pub same_place : (c : Place) → Same c c
same_place c = (same_refl c.at, refl)

-- the time of a place just before it lies behind it, and that of a place just after it before it
pub here_after : (c : Place) → c.after ≡ false → After c c.at
here_after c = by_side c.after
  where
    by_side : (b : Bool) → b ≡ false → MatchBool b (c.at <ʳ c.at) (c.at ≤ʳ c.at)
    by_side true e = absurd (false≢true (sym e))
    by_side false e = le_refl c.at

-- a place just after a time has that time before it
pub here_upto : (c : Place) → c.after ≡ true → Upto c c.at
here_upto c = by_side c.after
  where
    by_side : (b : Bool) → b ≡ true → MatchBool b (c.at ≤ʳ c.at) (c.at <ʳ c.at)
    by_side true e = le_refl c.at
    by_side false e = absurd (false≢true e)

-- where a later place begins, the time of the earlier one lies before it, unless that is just after its time; and likewise behind
pub earlier_upto : (c d : Place) → Before c d → Upto d c.at
earlier_upto c d (inl l) = upto_of_lt d c.at l
earlier_upto c d (inr (s, e, f)) = upto_time_same d d.at c.at (same_sym s) (here_upto d f)

-- the time of a later place lies behind the earlier one
pub later_after : (c d : Place) → Before c d → After c d.at
later_after c d (inl l) = after_of_lt c d.at l
later_after c d (inr (s, e, f)) = after_time_same c c.at d.at s (here_after c e)
