-- Places between times: just before a time, or just after it. With places the ends of intervals need no cases.
use Rattle.std.specs.Prelude.{◌≡◌, ◌⊎◌, Bool, true, false, not, ◌||◌, ◌&&◌, ℤ, MatchBool}
use Rattle.rational.specs.Time.{Rational, ◌≤ʳ◌, ◌<ʳ◌, ◌≈◌, Interval, add, whole}

-- a place just before a time, or just after it
pub record Place : Type 0 where
  pub at : Rational
  pub after : Bool

-- where an interval begins and where it ends
abbrev pub begins : Interval → Place
begins on = record { at = on.from; after = not on.from_in }

abbrev pub ends : Interval → Place
ends on = record { at = on.to; after = on.to_in }

-- the time lies after the place; it lies before it
abbrev pub After : Place → Rational → Type 0
After c t = MatchBool c.after (c.at <ʳ t) (c.at ≤ʳ t)

abbrev pub Upto : Place → Rational → Type 0
Upto c t = MatchBool c.after (t ≤ʳ c.at) (t <ʳ c.at)

-- the place c comes before d; they are one place
abbrev pub Before : Place → Place → Type 0
Before c d = (c.at <ʳ d.at) ⊎ ((c.at ≈ d.at) × (c.after ≡ false) × (d.after ≡ true))

abbrev pub Same : Place → Place → Type 0
Same c d = (c.at ≈ d.at) × (c.after ≡ d.after)

-- what lies before c lies before d
abbrev pub AtMost : Place → Place → Type 0
AtMost c d = (t : Rational) → Upto c t → Upto d t

-- a place moved by k, where what is moved has that end in or out: a beginning, and an end
abbrev pub moved_begin : ℤ → Bool → Place → Place
moved_begin k inside c = record { at = add c.at (whole k); after = c.after || not inside }

abbrev pub moved_end : ℤ → Bool → Place → Place
moved_end k inside c = record { at = add c.at (whole k); after = c.after && inside }
