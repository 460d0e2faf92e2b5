-- A plain list of knots as steps: each knot but the last, with the piece after it.
use Rattle.std.specs.Prelude.{ℕ, List, [], ◌∷◌, take, drop}
use Rattle.stl_syntax.specs.Knots.{Knot, Piece, Knots}

-- a knot and the piece after it
pub record Step : Type 0 where
  pub knot : Knot
  pub piece : Piece

abbrev pub step : Knot → Piece → Step
step k p = record { knot = k; piece = p }

-- the steps from a knot on
abbrev pub steps_from : Knot → List Piece → List Step
steps_from k [] = []
steps_from k (p ∷ pieces) = step k p ∷ steps_from p.next pieces

-- the steps of all knots
abbrev pub steps_of : Knots → List Step
steps_of knots = steps_from knots.first knots.pieces

-- the items from one place up to another
abbrev pub between : {X : Type 0} → ℕ → ℕ → List X → List X
between from to xs = drop from (take to xs)
