-- A chain of pieces that is minus another at each time.
use Rattle.std.specs.Prelude.{◌≡◌, ◌^◌, IsTrue, ℤ, List, [], ◌∷◌}
use Rattle.rational.specs.Affine.{HasBoundedLevel}
use Rattle.rational.specs.Extended.{opposite}
use Rattle.rational.specs.Windows.{Function}
use Rattle.value_laws.specs.Laws.{IsOpposite}
use Rattle.value_laws.specs.Members.{ShapeOf}
use Rattle.pieces.specs.declared.piece.Piece.{Piece}
use Rattle.pieces.specs.Chains.{Chain, HasShape, HasShapeIn}

-- at each time minus the value there
abbrev pub Negated : Function → Function
Negated A t v = A t (opposite v)

-- each moving shape of the new chain has a base made from that of a moving shape of the old one
abbrev pub BasesFrom : {P : Type 0} → ShapeOf P → (ℤ → ℤ) → Chain P → Chain P → Type 0
BasesFrom {P} shape made old new =
    (p : P) → HasShape new p → IsTrue (shape.moves p) → (q : P) × HasShape old q × IsTrue (shape.moves q) × (shape.base p ≡ made (shape.base q))

module _ {P : Type 0} (shape : ShapeOf P) where
  -- the shapes that are constant have values that are infinite or within 2^31
  abbrev pub AreLevel : List (Piece P) → Type 0
  AreLevel ps = (p : P) → HasShapeIn ps p → HasBoundedLevel (2 ^ 31) (shape.function p)

  -- the one piece ends where the other does, and its shape is minus that one's
  pub record IsOppositePiece (p q : Piece P) : Type 0 where
    pub until : q.until ≡ p.until
    pub value : IsOpposite (shape.function p.shape) (shape.function q.shape)
    pub base : IsTrue (shape.moves q.shape) → IsTrue (shape.moves p.shape) × (shape.base q.shape ≡ shape.base p.shape)

  -- so for two lists, piece by piece
  abbrev pub AreOpposite : List (Piece P) → List (Piece P) → Type 0
  AreOpposite [] [] = Unit {0}
  AreOpposite [] (q ∷ qs) = ⊥
  AreOpposite (p ∷ ps) [] = ⊥
  AreOpposite (p ∷ ps) (q ∷ qs) = IsOppositePiece p q × AreOpposite ps qs
