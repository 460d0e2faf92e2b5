-- Pairs that are refused, with times in a domain.
use Rattle.rational.specs.Rational.{Rational}
use Rattle.rational.specs.Time.{Within}
use Rattle.frac128.specs.Value.{value}
use Rattle.pl_signal.specs.declared.faults.WidePair.{WidePair}
use Rattle.pl_signal.specs.declared.faults.WidePair.TheVariants.{Cross, Value}
use Rattle.pl_signal.specs.declared.faults.OpFault.{OpFault}
use Rattle.pl_signal.specs.declared.faults.OpFault.TheVariants as F

-- the times of the pair lie from the one to the other
abbrev pub PairWithin : {P : Type 0} → Rational → Rational → WidePair P → Type 0
PairWithin from to (Cross p q a b den) = Within from to (value a) × Within from to (value b)
PairWithin from to (Value p at den) = Within from to (value at)

-- the times of a pair that is refused do
abbrev pub IsPairWithin : {P : Type 0} → Rational → Rational → OpFault P → Type 0
IsPairWithin from to F.Memory = Unit {0}
IsPairWithin from to (F.Wide pair) = PairWithin from to pair
