-- A signal that goes on after its last knot.
use Rattle.std.specs.Prelude.{◌≡◌, ◌⊎◌, ◌↔◌, List}
use Rattle.rational.specs.Time.{Rational, ◌<ʳ◌, ◌≈◌}
use Rattle.rational.specs.Extended.{Extended, Passes}
use Rattle.frac128.specs.Value.{value}
use Rattle.frac128.specs.declared.frac.Frac.{Frac}
use Rattle.value_laws.specs.Members.{ShapeOf}
use Rattle.pl_signal.specs.declared.knot.Knot.{Knot}
use Rattle.pl_signal.specs.Knots.{start, stop, HasShape, IsSignal, IsWorth}

module _ {P : Type 0} (shape : ShapeOf P) where
  -- the new signal is the old one up to its last time, then `after` on the open gap up to the time `at`, and `point` there
  pub record GoesOn (old : List (Knot P)) (after : P) (at : Frac) (point : P) (new : List (Knot P)) : Type 0 where
    pub signal : IsSignal shape new
    pub begins : start new ≡ start old
    pub ends : stop new ≡ value at
    pub worth : (t : Rational) (v : Extended) → IsWorth shape new t v
        ↔ (IsWorth shape old t v ⊎ ((stop old <ʳ t) × (t <ʳ value at) × Passes (shape.function after) t v)
        ⊎ ((t ≈ value at) × Passes (shape.function point) t v))
    pub shapes : (p : P) → HasShape new p → HasShape old p ⊎ (p ≡ after) ⊎ (p ≡ point)
