-- The least and the greatest of two functions of time at each time, and when a step over two may refuse.
use Rattle.std.specs.Prelude.{◌≤◌, ◌^◌, ℕ, List}
use Rattle.rational.specs.Rational.{Rational, ◌<ʳ◌, ◌≤ʳ◌}
use Rattle.rational.specs.Time.{HasDenominator}
use Rattle.rational.specs.Extended.{Extended, value_at, IsLeast, IsGreatest}
use Rattle.rational.specs.Affine.{MeetAlone}
use Rattle.rational.specs.Windows.{Function}
use Rattle.frac128.specs.Value.{value}
use Rattle.value_laws.specs.Members.{ShapeOf}
use Rattle.pl_signal.specs.declared.faults.WidePair.TheVariants.{Cross, Value}
use Rattle.pl_signal.specs.declared.faults.OpFault.{OpFault}
use Rattle.pl_signal.specs.declared.faults.OpFault.TheVariants as F
use Rattle.pl_signal.specs.declared.knot.Knot.{Knot}
use Rattle.pl_signal.specs.Knots.{HasShape}

-- at each time the least of the two values there
abbrev pub LeastOf : Function → Function → Function
LeastOf A B t v = (x y : Extended) × A t x × B t y × IsLeast x y v

-- at each time the greatest
abbrev pub GreatestOf : Function → Function → Function
GreatestOf A B t v = (x y : Extended) × A t x × B t y × IsGreatest x y v

module _ {P : Type 0} (shape : ShapeOf P) where
  -- the shape is the part of the function on the open gap
  abbrev pub IsPartOnGap : Function → Rational → Rational → P → Type 0
  IsPartOnGap A from to p = (t : Rational) → from <ʳ t → t <ʳ to → A t (value_at (shape.function p) t)

  -- a part of each function on a common open gap of the domain, and their crossing there, which needs the denominator
  pub record IsWideMeeting (A B : Function) (start stop : Rational) (p q : P) (from to : Rational) (den : ℕ) : Type 0 where
    pub after_start : start ≤ʳ from
    pub before_stop : to ≤ʳ stop
    pub left : IsPartOnGap A from to p
    pub right : IsPartOnGap B from to q
    pub at : Rational
    pub meet : MeetAlone (shape.function p) (shape.function q) from to at
    pub denominator : HasDenominator at den
    pub wide : 2 ^ 60 ≤ den

  -- a fault is want of memory, or a crossing of a part of each on a common open gap that needs a denominator of 2^60 or more
  abbrev pub IsFault : Function → Function → Rational → Rational → OpFault P → Type 0
  IsFault A B start stop F.Memory = Unit {0}
  IsFault A B start stop (F.Wide (Cross p q from to den)) = IsWideMeeting A B start stop p q (value from) (value to) den
  IsFault A B start stop (F.Wide (Value p at den)) = ⊥

-- the crossing that a fault names is that of a shape of each signal
abbrev pub NamesShapes : {P : Type 0} → List (Knot P) → List (Knot P) → OpFault P → Type 0
NamesShapes a b F.Memory = Unit {0}
NamesShapes a b (F.Wide (Cross p q from to den)) = HasShape a p × HasShape b q
NamesShapes a b (F.Wide (Value p at den)) = ⊥
