-- The count of cells: of the same nodes it is one number, and the limit is passed at one sum.
use Rattle.std.specs.Prelude.{◌≡◌, ◌<◌, ℕ, List}
use Rattle.stl_syntax.specs.Trace.{Trace}
use Rattle.stl_syntax.specs.Kept.{CellCount, IsTooMany}
use Rattle.stl_syntax.specs.declared.node.Node.{Node}

-- two counts of the cells of the same nodes are one
abbrev pub OneCount : Type 0
OneCount = (nodes : List Node) (tr : Trace) (place n m : ℕ) → CellCount nodes tr place n → CellCount nodes tr place m → n ≡ m

-- the running sum at which a limit is passed is one
abbrev pub OneIsTooMany : Type 0
OneIsTooMany = (nodes : List Node) (tr : Trace) (limit n m : ℕ) → IsTooMany nodes tr limit n → IsTooMany nodes tr limit m → n ≡ m

-- a limit is passed only where the cells of all nodes are more
abbrev pub TooManyIsMore : Type 0
TooManyIsMore = (nodes : List Node) (tr : Trace) (limit count n : ℕ) → IsTooMany nodes tr limit count → CellCount nodes tr 0 n → limit < n
