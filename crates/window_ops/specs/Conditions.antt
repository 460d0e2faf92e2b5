-- What a window asks of the bases of the shapes of a signal, and what it says of its own.
use Rattle.std.specs.Prelude.{◌≡◌, ◌⊎◌, ℕ, ◌^◌, ◌-ℤ◌, ◌+ℤ◌, ◌≤ℤ◌, pos, neg_ℤ, IsTrue, List, Option, Some, None}
use Rattle.value_laws.specs.Members.{ShapeOf}
use Rattle.pl_signal.specs.declared.knot.Knot.{Knot}
use Rattle.pl_signal.specs.Knots.{HasShape}

module _ {P : Type 0} (shape : ShapeOf P) where
  -- each base is a time from -2^32 to 2^33
  abbrev pub AreNear : List (Knot P) → Type 0
  AreNear knots = (p : P) → HasShape knots p → (neg_ℤ (pos (2 ^ 32)) ≤ℤ shape.base p) × (shape.base p ≤ℤ pos (2 ^ 33))

module _ {P : Type 0} (shape : ShapeOf P) where
  -- each moving shape of the new signal has the base of a moving shape of the old one, less one of the two bounds
  abbrev pub BasesAhead : ℕ → ℕ → List (Knot P) → List (Knot P) → Type 0
  BasesAhead a b old new = (p : P) → HasShape new p → IsTrue (shape.moves p) → (q : P) × HasShape old q
      × IsTrue (shape.moves q) × ((shape.base p ≡ shape.base q -ℤ pos a) ⊎ (shape.base p ≡ shape.base q -ℤ pos b))

  -- more by one of the finite bounds
  abbrev pub BasesBehind : ℕ → Option ℕ → List (Knot P) → List (Knot P) → Type 0
  BasesBehind a None old new = (p : P) → HasShape new p → IsTrue (shape.moves p) → (q : P) × HasShape old q
      × IsTrue (shape.moves q) × (shape.base p ≡ shape.base q +ℤ pos a)
  BasesBehind a (Some b) old new = (p : P) → HasShape new p → IsTrue (shape.moves p) → (q : P) × HasShape old q
      × IsTrue (shape.moves q) × ((shape.base p ≡ shape.base q +ℤ pos a) ⊎ (shape.base p ≡ shape.base q +ℤ pos b))
