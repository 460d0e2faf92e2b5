-- What the helpers that cut a list of knots say.
use Rattle.std.specs.Prelude.{◌≡◌, ◌⊎◌, List}
use Rattle.rational.specs.Time.{◌<ʳ◌, ◌≈◌}
use Rattle.frac128.specs.Value.{value}
use Rattle.frac128.specs.declared.frac.Frac.{Frac}
use Rattle.value_laws.specs.Members.{ShapeOf}
use Rattle.pl_signal.specs.declared.knot.Knot.{Knot}
use Rattle.pl_signal.specs.Knots.{time, HasShape, IsWorth}
use Rattle.pl_signal.specs.Moves.{Tells}

-- the shape that stands at a time not before k and before the next knot
abbrev pub StandsFrom : {P : Type 0} → Knot P → Frac → P → Type 0
StandsFrom k from shape = ((time k ≈ value from) × (shape ≡ k.point)) ⊎ ((time k <ʳ value from) × (shape ≡ k.after))

module _ {P : Type 0} (shape : ShapeOf P) where
  -- the new signal is the old one on the stretch, in shapes of it
  pub record IsCut (old : List (Knot P)) (from to : Frac) (new : List (Knot P)) : Type 0 where
    pub tells : Tells shape (IsWorth shape old) (value from) (value to) new
    pub shapes : (p : P) → HasShape new p → HasShape old p
