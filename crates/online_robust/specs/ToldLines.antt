-- What was told of a margin piece by piece, as the lines of an edge.
use Rattle.std.specs.Prelude.{Bool, true, false, if◌then◌else◌, List, [], ◌∷◌}
use Rattle.rational.specs.Time.{less}
use Rattle.frac128.specs.Value.{value}
use Rattle.frac128.specs.Cuts.{is_after}
use Rattle.frac128.specs.declared.frac.Frac.{Frac}
use Rattle.value_laws.specs.declared.margin.Margin.{Margin}
use Rattle.pieces.specs.declared.piece.Piece.{Piece}
use Rattle.online_robust.specs.declared.line.MarginLine.{MarginLine}
use Rattle.online_robust.specs.declared.line.MarginLine.TheVariants.{Point, Gap}

-- the shape of the first piece; that of the point, if there is none
abbrev pub first_shape : List (Piece Margin) → Margin → Margin
first_shape [] point = point
first_shape (p ∷ ps) point = p.shape

-- the shape that counts at the time at which a piece ends: its own, or where it ends just before the time that of what comes behind it
abbrev pub shape_at_end : Piece Margin → List (Piece Margin) → Margin → Margin
shape_at_end p ps point = if is_after p.until.side then p.shape else first_shape ps point

-- the gaps of the pieces from a time on, each with the point that ends it; a piece of one time has none. The point stands behind the last
abbrev pub lines_told : Frac → List (Piece Margin) → Margin → List MarginLine
lines_told at [] point = []
lines_told at (p ∷ ps) point =
    if less (value at) (value p.until.time)
    then Gap at p.until.time p.shape ∷ Point p.until.time (shape_at_end p ps point) ∷ lines_told p.until.time ps point
    else lines_told at ps point

-- these lines with the point at which they begin, or without
abbrev pub all_told : Bool → Frac → List (Piece Margin) → Margin → List MarginLine
all_told true at ps point = Point at (first_shape ps point) ∷ lines_told at ps point
all_told false at ps point = lines_told at ps point
