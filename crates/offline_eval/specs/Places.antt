-- What the chain that is made at a place of a formula takes, keeps and tells.
use Rattle.std.specs.Prelude.{◌≡◌, ℕ, ◌+◌, List, take, drop, sum_by, Some, slice_get}
use Rattle.value_laws.specs.Members.{ShapeOf}
use Rattle.pl_signal.specs.declared.knot.Knot.{Knot}
use Rattle.pl_signal.specs.declared.faults.OpFault.{OpFault}
use Rattle.pieces.specs.Chains.{Chain}
use Rattle.stl_syntax.specs.Formula.{Subformula, subformula, tree_of}
use Rattle.stl_syntax.specs.Limits.{own_reach}
use Rattle.stl_syntax.specs.SupInf.{Setting}
use Rattle.stl_syntax.specs.declared.node.Node.{Node}
use Rattle.offline_eval.specs.Forms.{of_pieces}
use Rattle.offline_eval.specs.Inputs.{atoms_before, IsOver, TellAtomsBelow}
use Rattle.offline_eval.specs.Making.{AreSound, IsSound, TellAt, TellsValue, IsFaultOf}

-- what the first nodes add to the reach
abbrev pub reach_before : List Node → ℕ → ℕ
reach_before nodes i = sum_by own_reach (take i nodes)

-- of the signals that are left for the atoms from place i on, those are left after it that are for the atoms behind it
abbrev pub TakesOwn : {P : Type 0} → List Node → ℕ → List (List (Knot P)) → List (List (Knot P)) → Type 0
TakesOwn {P} nodes i old new = (all : List (List (Knot P))) → old ≡ drop (atoms_before nodes i) all → new ≡ drop (atoms_before nodes (i + 1)) all

module _ {P : Type 0} (shape : ShapeOf P) where
  -- the new chain is sound where those before it are
  abbrev pub PlaceStaysSound : ℕ → ℕ → List Node → ℕ → List (Chain P) → Chain P → Type 0
  PlaceStaysSound from to nodes i xs r = AreSound (of_pieces shape) from to (reach_before nodes i) xs
      → IsSound (of_pieces shape) from to (reach_before nodes (i + 1)) r

-- the formulas at the places are those of the nodes where the node at place i has its children
abbrev pub AgreeAt : List Node → ℕ → (ℕ → Subformula) → Type 0
AgreeAt nodes i at = (n : Node) → slice_get nodes i ≡ Some n → tree_of at i n ≡ tree_of (subformula nodes) i n

module _ {P : Type 0} (shape : ShapeOf P) where
  -- where the atoms' signals tell the atoms up to this place, and the chains of its children tell their nodes, the new chain tells its node
  abbrev pub TellsPlace : ℕ → ℕ → List Node → ℕ → List (List (Knot P)) → List (Chain P) → Chain P → Type 0
  TellsPlace from to nodes i left xs r =
      (s : Setting) (at : ℕ → Subformula) (all : List (List (Knot P))) → IsOver shape.lowest shape.highest from to s
      → left ≡ drop (atoms_before nodes i) all → TellAtomsBelow shape (i + 1) nodes all s
      → AgreeAt nodes i at → TellAt (of_pieces shape) s at xs → TellsValue (of_pieces shape) s (subformula nodes i) r

  -- there a fault is one of its node
  abbrev pub FaultOfPlace : ℕ → ℕ → List Node → ℕ → List (Chain P) → OpFault P → Type 0
  FaultOfPlace from to nodes i xs e =
      (s : Setting) (at : ℕ → Subformula) → IsOver shape.lowest shape.highest from to s → AgreeAt nodes i at → TellAt (of_pieces shape) s at xs
      → IsFaultOf shape s (subformula nodes i) e
