-- Where the cells of each atom stand among all cells.
use Rattle.std.specs.Prelude.{◌≡◌, ℕ, zero, suc, ◌+◌, ◌<◌, Bool, List, [], ◌∷◌, ◌++◌, length, take, Some, slice_get, slice_index}
use Rattle.rational.specs.Time.{Rational, ◌≤ʳ◌, ◌<ʳ◌}
use Rattle.pl_signal.specs.declared.knot.Knot.{Knot}
use Rattle.pl_signal.specs.Knots.{time}
use Rattle.value_laws.specs.declared.truth.Truth.{Truth}
use Rattle.stl_syntax.specs.Trace.{Trace}
use Rattle.stl_syntax.specs.Kleene.{IsCovered}
use Rattle.stl_syntax.specs.Cells.{AreCuts, cells}
use Rattle.stl_syntax.specs.Kept.{AllCells, ItemsOn}
use Rattle.stl_syntax.specs.declared.atom.Atom.{Atom}
use Rattle.stl_syntax.specs.declared.items.Item.{Item}
use Rattle.stl_syntax.specs.declared.node.Node.{Node}
use Rattle.stl_syntax.specs.declared.node.Node.TheVariants.{Atom as Leaf}

-- where the cells of the node at a place begin, by how many cells there are up to each node
abbrev pub begins : List ℕ → ℕ → ℕ
begins ends zero = 0
begins ends (suc i) = slice_index ends i

-- the items from one place up to another are the cells of the atom at place i, and no others are
pub record IsRun (nodes : List Node) (tr : Trace) (items : List Item) (i from to : ℕ) : Type 0 where
  pub times : List Rational
  pub front : List Item
  pub here : List Item
  pub back : List Item
  pub cuts : AreCuts nodes tr i times
  pub cells : ItemsOn nodes tr i (cells times) here
  pub all : items ≡ front ++ (here ++ back)
  pub begin : length front ≡ from
  pub end : from + length here ≡ to
  pub none_before : (t : Rational) → ¬ IsCovered front i t
  pub none_behind : (t : Rational) → ¬ IsCovered back i t

-- the items are the cells of all atoms, and `ends` says how many there are up to each node
pub record AreAllCells (nodes : List Node) (tr : Trace) (items : List Item) (ends : List ℕ) : Type 0 where
  pub cells : AllCells nodes tr 0 nodes items
  pub count : length ends ≡ length nodes
  pub runs : (i : ℕ) (a : Atom) → slice_get nodes i ≡ Some (Leaf a) → IsRun nodes tr items i (begins ends i) (slice_index ends i)

-- marks of the cells of all atoms, over a trace that has rows
pub record AreMarksOf (nodes : List Node) (tr : Trace) (items : List Item) (ends : List ℕ) (marks : List Bool) : Type 0 where
  pub some : 0 < length tr.rows
  pub cells : AreAllCells nodes tr items ends
  pub count : length marks ≡ length items

-- t is between the knot at a place and the one behind it, or the time of either
pub record IsUpTo (x : List (Knot Truth)) (place : ℕ) (t : Rational) : Type 0 where
  pub here : (k : Knot Truth) → slice_get x place ≡ Some k → time k ≤ʳ t
  pub next : (k : Knot Truth) → slice_get x (place + 1) ≡ Some k → t ≤ʳ time k

-- the knot at a place is the last that is not later than t
pub record IsPlaceOf (x : List (Knot Truth)) (place : ℕ) (t : Rational) : Type 0 where
  pub here : (k : Knot Truth) → slice_get x place ≡ Some k → time k ≤ʳ t
  pub next : (k : Knot Truth) → slice_get x (place + 1) ≡ Some k → t <ʳ time k

-- the new items are the old ones, and behind them the cells of the node at place i, where it is an atom
abbrev pub AddsNode : List Node → Trace → ℕ → List Item → List Item → Type 0
AddsNode nodes tr i old new = (n : Node) → slice_get nodes i ≡ Some n → (here : List Item) × (new ≡ old ++ here) × AllCells nodes tr i (n ∷ []) here

-- what stands after the first nodes: their cells, and how many there are up to each
pub record AreCellsBelow (nodes : List Node) (tr : Trace) (here : ℕ) (items : List Item) (ends : List ℕ) : Type 0 where
  pub cells : AllCells nodes tr 0 (take here nodes) items
  pub count : length ends ≡ here
  pub last : begins ends here ≡ length items
  pub runs : (i : ℕ) (a : Atom) → i < here → slice_get nodes i ≡ Some (Leaf a) → IsRun nodes tr items i (begins ends i) (slice_index ends i)
  pub below : (i : ℕ) (t : Rational) → IsCovered items i t → i < here
