-- What a window may refuse on its way over a chain: a crossing or a value that is in play below a limit, or held at a breakpoint.
use Rattle.std.specs.Prelude.{◌⊎◌}
use Rattle.rational.specs.Time.{Rational, shifted, ◌≤ʳ◌, ◌<ʳ◌}
use Rattle.rational.specs.Extended.{Affine}
use Rattle.rational.specs.InPlay.{HasTime, IsLimitWithin, IsValueWithin, IsWideCrossing, IsWideValue}
use Rattle.rational.specs.Places.{Place, After, Upto, Before}
use Rattle.frac128.specs.Value.{value}
use Rattle.frac128.specs.Cuts.{place}
use Rattle.value_laws.specs.Members.{ShapeOf}
use Rattle.pl_signal.specs.declared.faults.WidePair.{WidePair}
use Rattle.pl_signal.specs.declared.faults.WidePair.TheVariants.{Cross, Value}
use Rattle.pieces.specs.declared.reach.Reach.{Reach}
use Rattle.pieces.specs.declared.reach.Way.{Way}
use Rattle.pieces.specs.declared.sliding.Sliding.{Sliding}
use Rattle.pieces.specs.Chains.{Chain, IsWorth, stop}
use Rattle.pieces.specs.Over.{InPlay, SeesIn, with_ends}
use Rattle.pieces.specs.Sliding.{last_end}
use Rattle.pieces.specs.Windows.{low_place}

-- behind the window's steps nothing is seen of what lies before the place
abbrev pub HasPassed : {P : Type 0} → Way → Place → Sliding P → Type 0
HasPassed way met s = (t : Rational) → After (last_end s) t → Upto (place way.to) t → ¬ Before (low_place way.over.low way.over.low_in t) met

module _ {P : Type 0} (shape : ShapeOf P) (chain : Chain P) where
  module _ (over : Reach) where
    -- a line is in play at tau, before the limit
    abbrev pub InPlayBelow : Rational → Rational → Affine → Type 0
    InPlayBelow limit tau line = InPlay shape chain over tau line × (tau <ʳ limit)

    -- a pair is a cause at a time below the limit
    abbrev pub IsCauseBelow : Rational → WidePair P → Type 0
    IsCauseBelow limit (Cross p q a b den) =
        IsWideCrossing (InPlayBelow limit) chain.from.at (stop chain).at (shape.function p) (shape.function q) (value a) (value b) den
    IsCauseBelow limit (Value p at den) = IsWideValue (InPlayBelow limit) chain.from.at (stop chain).at (shape.function p) (value at) den

    -- a constant that the chain has at a breakpoint up to the time `last` is in play at tau
    abbrev pub IsHeldWithin : Rational → Rational → Affine → Type 0
    IsHeldWithin last tau line =
        IsValueWithin (IsWorth shape chain) chain.from.at (stop chain).at (λ u. SeesIn chain.from.at (stop chain).at over tau u × (u ≤ʳ last)) line
        ⊎ IsLimitWithin (IsWorth shape chain) chain.from.at (stop chain).at
        (λ u. SeesIn chain.from.at (stop chain).at (with_ends over) tau u × (u ≤ʳ last))
        (λ u. shifted tau over.low <ʳ u) (λ u. u <ʳ shifted tau over.high) line

    -- and so it is where the window sees something
    abbrev pub IsHeldAt : Rational → Rational → Affine → Type 0
    IsHeldAt last tau line = HasTime (SeesIn chain.from.at (stop chain).at over tau) × IsHeldWithin last tau line

    -- a pair is the value of such a constant
    abbrev pub IsHeldCause : Rational → WidePair P → Type 0
    IsHeldCause last (Cross p q a b den) = ⊥
    IsHeldCause last (Value p at den) = IsWideValue (IsHeldWithin last) chain.from.at (stop chain).at (shape.function p) (value at) den
