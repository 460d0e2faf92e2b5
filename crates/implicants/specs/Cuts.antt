-- Cut times as fractions, and those that parents hand down.
use Rattle.std.specs.Prelude.{◌≡◌, ◌⊎◌, ◌+◌, ◌-◌, ◌<◌, ◌≤◌, ◌^◌, ℕ, ℤ, pos, List, [], ◌∷◌, option_to_list, map, length, All, Contains}
use Rattle.std.specs.Prelude.{unsigned_abs, Some, slice_get, slice_index_or}
use Rattle.std.specs.declared.vec.Vec.{Vec}
use Rattle.std.specs.declared.alloc.Global.{Global}
use Rattle.rational.specs.Time.{Rational, Within, shifted, ◌≈◌}
use Rattle.rational.specs.Rational.{IsWithin}
use Rattle.frac128.specs.Value.{value}
use Rattle.frac128.specs.declared.frac.Frac.{Frac}
use Rattle.stl_syntax.specs.Trace.{Trace}
use Rattle.stl_syntax.specs.Cells.{AreCuts, IsAmong, IsChild, shifts}
use Rattle.stl_syntax.specs.declared.node.Node.{Node}
use Rattle.stl_syntax.specs.declared.operator.Offsets.{Offsets}
use Rattle.stl_syntax.specs.declared.operator.View.{View}
use Rattle.stl_syntax.specs.declared.operator.View.TheVariants as V

-- the times that fractions stand for
abbrev pub times_of : List Frac → List Rational
times_of xs = map value xs

abbrev pub list_times : Vec Frac Global → List Rational
list_times v = times_of v.items

-- the time is within the limit of times
abbrev pub IsNearTime : Frac → Type 0
IsNearTime t = IsWithin (2 ^ 34) (value t)

abbrev pub AreNear : List Frac → Type 0
AreNear xs = All IsNearTime xs

abbrev pub IsNearList : Vec Frac Global → Type 0
IsNearList v = AreNear v.items

-- the move is within the limit of bounds
abbrev pub IsNearMove : ℤ → Type 0
IsNearMove k = unsigned_abs k ≤ 2 ^ 32

abbrev pub AreNearMoves : List ℤ → Type 0
AreNearMoves ks = All IsNearMove ks

-- the moves by both ends of a window; one without a beginning has none by it
abbrev pub window_moves : Offsets → List ℤ
window_moves w = w.high ∷ option_to_list w.low

-- by how much a node's cut times are moved for its children, by its view
abbrev pub moves_of : View → List ℤ
moves_of (V.Over asks w p) = window_moves w
moves_of (V.Reach way w p q) = pos 0 ∷ window_moves w
moves_of v = pos 0 ∷ []

-- the new times are the old ones, those for which P holds, and no others
pub record Adds (P : Rational → Type 0) (old new : List Rational) : Type 0 where
  pub stay : (t : Rational) → IsAmong old t → IsAmong new t
  pub put : (t : Rational) → P t → IsAmong new t
  pub only : (t : Rational) → IsAmong new t → IsAmong old t ⊎ P t

-- t is one of the times moved by k, and lies in the domain
pub record IsMoved (from to : Rational) (times : List Rational) (k : ℤ) (t : Rational) : Type 0 where
  pub u : Rational
  pub cut : IsAmong times u
  pub is : t ≈ shifted u k
  pub inside : Within from to t

-- it is moved by one of the moves
abbrev pub IsMovedBy : Rational → Rational → List Rational → List ℤ → Rational → Type 0
IsMovedBy from to times ks t = (k : ℤ) × Contains ks k × IsMoved from to times k t

-- a parent of the node at place i hands the time down
pub record IsHandedDown (nodes : List Node) (from to : Rational) (cuts : ℕ → List Rational) (i : ℕ) (t : Rational) : Type 0 where
  pub j : ℕ
  pub n : Node
  pub at : slice_get nodes j ≡ Some n
  pub child : IsChild n i
  pub moved : IsMovedBy from to (cuts j) (shifts n) t

-- the cut times of the node at place j, of `count` nodes, where those of the last node stand first
abbrev pub cuts_at : ℕ → List (Vec Frac Global) → ℕ → List Rational
cuts_at count done j = slice_index_or (map list_times done) (count - 1 - j) []

-- these are the cut times of the nodes from place `here` on, those of the last node first
pub record AreCutsFrom (nodes : List Node) (tr : Trace) (here : ℕ) (done : List (Vec Frac Global)) : Type 0 where
  pub count : here + length done ≡ length nodes
  pub cuts : (j : ℕ) → here ≤ j → j < length nodes → AreCuts nodes tr j (cuts_at (length nodes) done j)
