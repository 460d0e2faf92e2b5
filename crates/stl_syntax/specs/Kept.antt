-- The items that an explanation keeps, and the traces that agree with them.
use Rattle.std.specs.Prelude.{◌≡◌, ◌⊎◌, ℕ, suc, ◌+◌, ◌*◌, ◌-◌, ◌<◌, ◌≤◌, List, [], ◌∷◌, ◌++◌, length, reverse, MatchBool}
use Rattle.rational.specs.Time.{Rational, Interval, IsIn, BeginAlike, EndAlike}
use Rattle.stl_syntax.specs.Trace.{Trace, IsLike, start}
use Rattle.stl_syntax.specs.Formula.{Subformula, subformula, root}
use Rattle.stl_syntax.specs.Truth.{Truth}
use Rattle.stl_syntax.specs.Kleene.{MustNot}
use Rattle.stl_syntax.specs.Cells.{AreCuts, cells}
use Rattle.frac128.specs.Spans.{interval}
use Rattle.stl_syntax.specs.declared.items.Item.{Item}
use Rattle.stl_syntax.specs.declared.node.Node.{Node}
use Rattle.stl_syntax.specs.declared.node.Node.TheVariants.{Atom as Leaf}

-- the node has the written truth at each time of the item's span
abbrev pub IsSo : List Node → Trace → Item → Type 0
IsSo nodes tr e = (t : Rational) → IsIn (interval e.on) t → MatchBool e.holds (Truth (subformula nodes e.node) tr t) (¬ Truth (subformula nodes e.node) tr t)

-- each of the items is so
abbrev pub AreSo : List Node → Trace → List Item → Type 0
AreSo nodes tr [] = Unit {0}
AreSo nodes tr (e ∷ items) = IsSo nodes tr e × AreSo nodes tr items

-- one item for each of the spans, with the truth there
abbrev pub ItemsOn : List Node → Trace → ℕ → List Interval → List Item → Type 0
ItemsOn nodes tr i [] [] = Unit {0}
ItemsOn nodes tr i (on ∷ spans) (e ∷ items) =
    (e.node ≡ i) × BeginAlike (interval e.on) on × EndAlike (interval e.on) on × IsSo nodes tr e × ItemsOn nodes tr i spans items
ItemsOn nodes tr i [] (e ∷ items) = ⊥
ItemsOn nodes tr i (on ∷ spans) [] = ⊥

-- the cells of the atoms among the nodes from place i on, in order
abbrev pub AllCells : List Node → Trace → ℕ → List Node → List Item → Type 0
AllCells nodes tr i [] items = items ≡ []
AllCells nodes tr i (Leaf a ∷ rest) items =
    (times : List Rational) × (here later : List Item) × AreCuts nodes tr i times × ItemsOn nodes tr i (cells times) here
    × (items ≡ here ++ later) × AllCells nodes tr (suc i) rest later
AllCells nodes tr i (_ ∷ rest) items = AllCells nodes tr (suc i) rest items

-- from the last cell to the first, a cell is dropped where the formula is certainly false at the start without it;
-- `left` are the cells to be judged, the last one first, and `after` those that were kept
abbrev pub KeptFrom : Subformula → Trace → List Item → List Item → List Item → Type 0
KeptFrom p tr [] after kept = kept ≡ after
KeptFrom p tr (e ∷ left) after kept =
    (MustNot p (reverse left ++ after) tr (start tr) × KeptFrom p tr left after kept)
    ⊎ ((¬ MustNot p (reverse left ++ after) tr (start tr)) × KeptFrom p tr left (e ∷ after) kept)

-- the cells that are kept of all those of the atoms
pub record Kept (nodes : List Node) (tr : Trace) (kept : List Item) : Type 0 where
  pub all : List Item
  pub cells : AllCells nodes tr 0 nodes all
  pub dropped : KeptFrom (root nodes) tr (reverse all) [] kept

-- n is the number of cells of the nodes from the last down to place i
pub data CellCount (nodes : List Node) (tr : Trace) : ℕ → ℕ → Type 0 where
  none : CellCount nodes tr (length nodes) 0
  more : {i n : ℕ} (times : List Rational) → CellCount nodes tr (suc i) n → AreCuts nodes tr i times
      → CellCount nodes tr i (n + (2 * length times - 1))

-- the most cells of an explanation
abbrev pub most_cells : ℕ
most_cells = 65536

-- the running sum at the first node at which it passes the limit
pub record IsTooMany (nodes : List Node) (tr : Trace) (limit count : ℕ) : Type 0 where
  pub place : ℕ
  pub before : ℕ
  pub within : before ≤ limit
  pub passed : limit < count
  pub count_before : CellCount nodes tr (suc place) before
  pub count_here : CellCount nodes tr place count

-- tr' is like tr, and each item is so in it
pub record Agree (nodes : List Node) (tr' tr : Trace) (items : List Item) : Type 0 where
  pub like : IsLike tr' tr
  pub so : AreSo nodes tr' items
