-- Since from the start and until to the end of two signals, and what their results are made of.
use Rattle.std.specs.Prelude.{◌≡◌, ◌⊎◌, List, IsTrue}
use Rattle.rational.specs.InPlay.{Step, since_start, until_end}
use Rattle.rational.specs.Windows.{Function, SinceFromStart, UntilToEnd}
use Rattle.value_laws.specs.Members.{ShapeOf}
use Rattle.pl_signal.specs.declared.knot.Knot.{Knot}
use Rattle.pl_signal.specs.Knots.{start, stop, HasShape, IsWorth}

-- each moving shape of the new signal has the base of a moving shape of one of the two
abbrev pub BasesOfTwo : {P : Type 0} → ShapeOf P → List (Knot P) → List (Knot P) → List (Knot P) → Type 0
BasesOfTwo {P} shape a b new =
    (p : P) → HasShape new p → IsTrue (shape.moves p) → (q : P) × (HasShape a q ⊎ HasShape b q) × IsTrue (shape.moves q) × (shape.base p ≡ shape.base q)

module _ {P : Type 0} (shape : ShapeOf P) (p q : List (Knot P)) where
  -- p since q, where q counts from the start on
  abbrev pub SinceOf : Function
  SinceOf = SinceFromStart shape.lowest shape.highest (start p) (IsWorth shape p) (IsWorth shape q)

  -- p until q, where q counts up to the end
  abbrev pub UntilOf : Function
  UntilOf = UntilToEnd shape.lowest shape.highest (stop p) (IsWorth shape p) (IsWorth shape q)

  -- the step that makes the one
  abbrev pub SinceStep : Step
  SinceStep = since_start (IsWorth shape p) (IsWorth shape q) SinceOf

  -- and the step that makes the other
  abbrev pub UntilStep : Step
  UntilStep = until_end (IsWorth shape p) (IsWorth shape q) UntilOf
