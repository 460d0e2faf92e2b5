-- A signal as the plain list of its knots: times, the values there, and the two limits of each piece between, with no shape in it.
use Rattle.std.specs.Prelude.{List, [], ◌∷◌, pos}
use Rattle.rational.specs.Time.{whole}
use Rattle.rational.specs.Extended.{finite, value_at}
use Rattle.rational.specs.Knots as plain
use Rattle.rational.specs.Knots.{Piece, Knots}
use Rattle.value_laws.specs.Members.{ShapeOf}
use Rattle.pl_signal.specs.declared.knot.Knot.{Knot}
use Rattle.pl_signal.specs.Knots.{time}

module _ {P : Type 0} (shape : ShapeOf P) where
  -- the knot's time, and the value there
  abbrev pub plain_knot : Knot P → plain.Knot
  plain_knot k = record { time = time k; value = value_at (shape.function k.point) (time k) }

  -- the piece from one knot to the next, which ends it
  abbrev pub plain_piece : Knot P → Knot P → Piece
  plain_piece k n = record { from = value_at (shape.function k.after) (time k); to = value_at (shape.function k.after) (time n); next = plain_knot n }

  -- the pieces after a knot
  abbrev pub pieces_of : Knot P → List (Knot P) → List Piece
  pieces_of k [] = []
  pieces_of k (n ∷ knots) = plain_piece k n ∷ pieces_of n knots

  -- the plain list of the knots; a signal has a first one
  abbrev pub knots_of : List (Knot P) → Knots
  knots_of [] = record { first = record { time = whole (pos 0); value = finite (whole (pos 0)) }; pieces = [] }
  knots_of (k ∷ knots) = record { first = plain_knot k; pieces = pieces_of k knots }
