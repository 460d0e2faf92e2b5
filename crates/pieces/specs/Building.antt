-- A chain of pieces that goes on after its last piece.
use Rattle.std.specs.Prelude.{◌≡◌, ◌⊎◌, ◌↔◌, List, [], ◌∷◌, ◌++◌}
use Rattle.rational.specs.Time.{Rational}
use Rattle.rational.specs.Extended.{Extended, Passes}
use Rattle.rational.specs.Affine.{AreSame}
use Rattle.rational.specs.Places.{After, Upto}
use Rattle.frac128.specs.Cuts.{place}
use Rattle.frac128.specs.declared.cut.Cut.{Cut}
use Rattle.value_laws.specs.Members.{ShapeOf}
use Rattle.pieces.specs.declared.piece.Piece.{Piece}
use Rattle.pieces.specs.Chains.{CanBeLeftOut, Chain, stop, HasShape, IsNormal, IsWorth}

module _ {P : Type 0} (shape : ShapeOf P) where
  -- the new chain is the old one up to where that ends, and from there on the shape up to the place
  pub record GoesOn (old : Chain P) (until : Cut) (more : P) (new : Chain P) : Type 0 where
    pub normal : IsNormal shape new
    pub begins : new.from ≡ old.from
    pub ends : stop new ≡ place until
    pub worth : (t : Rational) (v : Extended) → IsWorth shape new t v
        ↔ (IsWorth shape old t v ⊎ (After (stop old) t × Upto (place until) t × Passes (shape.function more) t v))
    pub shapes : (p : P) → HasShape new p → HasShape old p ⊎ (p ≡ more)

  -- the shape goes on neither the last piece nor, over a last piece of one time, the one before it
  pub record IsNew (ps : List (Piece P)) (more : P) : Type 0 where
    -- the last piece is of another function
    pub differs : (front : List (Piece P)) (last : Piece P) → ps ≡ front ++ last ∷ [] → ¬ AreSame (shape.function last.shape) (shape.function more)
    -- the last piece cannot be left out in front of the shape
    pub needed : (front : List (Piece P)) (p q : Piece P) → ps ≡ front ++ p ∷ q ∷ [] → ¬ CanBeLeftOut shape p q more
