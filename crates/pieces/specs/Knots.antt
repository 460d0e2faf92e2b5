-- A knot of a signal as one piece of a chain or as two, and a piece of a chain in a signal.
use Rattle.std.specs.Prelude.{◌≡◌, ◌⊎◌, true, false, List}
use Rattle.rational.specs.Time.{Rational, ◌<ʳ◌}
use Rattle.rational.specs.Extended.{value_at, ◌≈ᵉ◌}
use Rattle.rational.specs.Places.{Place}
use Rattle.frac128.specs.Value.{value}
use Rattle.frac128.specs.declared.frac.Frac.{Frac}
use Rattle.value_laws.specs.Members.{ShapeOf}
use Rattle.pl_signal.specs.declared.knot.Knot.{Knot}
use Rattle.pl_signal.specs.Building as knots
use Rattle.pieces.specs.declared.piece.Piece.{Piece}
use Rattle.pieces.specs.Chains.{Chain, HasShape, IsWorth}
use Rattle.pieces.specs.Building.{GoesOn}

-- just before a time, and just after it
abbrev pub before : Rational → Place
before t = record { at = t; after = false }

abbrev pub after : Rational → Place
after t = record { at = t; after = true }

module _ {P : Type 0} (shape : ShapeOf P) where
  -- the chain goes on with the gap behind the knot, where that has the point's value at the knot, or with the point and then the gap
  abbrev pub GoesOnBy : Chain P → Knot P → Frac → Chain P → Type 0
  GoesOnBy old knot to new =
      ((value_at (shape.function knot.point) (value knot.time) ≈ᵉ value_at (shape.function knot.after) (value knot.time))
      × GoesOn shape old (record { time = to; side = 0 }) knot.after new)
      ⊎ ((half : Chain P) × GoesOn shape old (record { time = knot.time; side = 1 }) knot.point half
      × GoesOn shape half (record { time = to; side = 0 }) knot.after new)

  -- the signal goes on with the piece up to its end, and has the chain's value there; a piece of one time adds nothing
  abbrev pub IsAdded : Chain P → Rational → Piece P → List (Knot P) → List (Knot P) → Type 0
  IsAdded chain at p old new =
      (¬ (at <ʳ value p.until.time) × (new ≡ old))
      ⊎ ((at <ʳ value p.until.time) × (point : P) × HasShape chain point
      × IsWorth shape chain (value p.until.time) (value_at (shape.function point) (value p.until.time))
      × knots.GoesOn shape old p.shape p.until.time point new)
