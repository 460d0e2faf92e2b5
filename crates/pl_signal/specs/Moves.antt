-- Signals that tell a function of time on a stretch, or what another signal tells at other times.
use Rattle.std.specs.Prelude.{◌≡◌, ◌↔◌, List, ℤ, IsTrue}
use Rattle.rational.specs.Time.{Rational, Within, ◌≈◌}
use Rattle.rational.specs.Extended.{Extended}
use Rattle.rational.specs.Windows.{Function}
use Rattle.value_laws.specs.Members.{ShapeOf}
use Rattle.pl_signal.specs.declared.knot.Knot.{Knot}
use Rattle.pl_signal.specs.Knots.{start, stop, HasShape, IsSignal, IsWorth}

module _ {P : Type 0} (shape : ShapeOf P) where
  -- the signal goes from the one time to the other, and is worth at each time between what F says there
  pub record Tells (F : Function) (from to : Rational) (knots : List (Knot P)) : Type 0 where
    pub signal : IsSignal shape knots
    pub begins : start knots ≈ from
    pub ends : stop knots ≈ to
    pub worth : (t : Rational) (v : Extended) → IsWorth shape knots t v ↔ (Within from to t × F t v)

-- each moving shape of the new signal has a base made from that of a moving shape of the old one
abbrev pub BasesFrom : {P : Type 0} → ShapeOf P → (ℤ → ℤ) → List (Knot P) → List (Knot P) → Type 0
BasesFrom {P} shape made old new =
    (p : P) → HasShape new p → IsTrue (shape.moves p) → (q : P) × HasShape old q × IsTrue (shape.moves q) × (shape.base p ≡ made (shape.base q))
