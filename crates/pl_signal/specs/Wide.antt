-- The causes for which one step may refuse: a crossing or a value in play that needs a denominator of 2^60 or more.
use Rattle.rational.specs.Rational.{Rational}
use Rattle.rational.specs.InPlay.{Step, IsInPlay, IsWideCrossing, IsWideValue}
use Rattle.frac128.specs.Value.{value}
use Rattle.value_laws.specs.Members.{ShapeOf}
use Rattle.pl_signal.specs.declared.faults.WidePair.{WidePair}
use Rattle.pl_signal.specs.declared.faults.WidePair.TheVariants.{Cross, Value}
use Rattle.pl_signal.specs.declared.faults.OpFault.{OpFault}
use Rattle.pl_signal.specs.declared.faults.OpFault.TheVariants as F

module _ {P : Type 0} (shape : ShapeOf P) where
  -- the pair is a cause in the step, over a domain: both shapes are in play at one time at which they meet alone, or the
  -- constant of the value is in play, and the time or the value needs the denominator
  abbrev pub IsWideCause : Step → Rational → Rational → WidePair P → Type 0
  IsWideCause step from to (Cross p q a b den) = IsWideCrossing (IsInPlay step from to) from to (shape.function p) (shape.function q) (value a) (value b) den
  IsWideCause step from to (Value p at den) = IsWideValue (IsInPlay step from to) from to (shape.function p) (value at) den

  -- a fault that is Wide has a cause in the step
  abbrev pub HasCause : Step → Rational → Rational → OpFault P → Type 0
  HasCause step from to F.Memory = Unit {0}
  HasCause step from to (F.Wide pair) = IsWideCause step from to pair
