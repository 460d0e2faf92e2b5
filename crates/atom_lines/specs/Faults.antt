-- Why a formula is not bound to a header.
use Rattle.std.specs.Prelude.{◌≡◌, ℕ, List, Option, Some, None, slice_get, take, map, IsTrue, All, length}
use Rattle.stl_syntax.specs.Trace.{Column}
use Rattle.stl_syntax.specs.Formula.{Formula}
use Rattle.stl_syntax.specs.Characters.{is_among}
use Rattle.stl_syntax.specs.Binding.{HasColumn, IsUnknown}
use Rattle.stl_syntax.specs.declared.atom.Atom.{Atom}
use Rattle.stl_syntax.specs.declared.atom.Term.{Term}
use Rattle.stl_syntax.specs.declared.node.Node.{Node}
use Rattle.stl_syntax.specs.declared.node.Node.TheVariants.{Atom as Leaf}
use Rattle.atom_lines.specs.declared.bound_atom.BoundAtom.{BoundAtom}
use Rattle.atom_lines.specs.Binding.{IsAtomBinding}
use Rattle.atom_lines.specs.declared.binding.BindFault.{BindFault}
use Rattle.atom_lines.specs.declared.binding.BindFault.TheVariants.{UnknownColumn, Memory}

-- the first term in post-order whose name is no column; want of memory is free
abbrev pub IsBindFault : List Column → Formula → BindFault → Type 0
IsBindFault columns f (UnknownColumn atom term) = (name : List ℕ) × IsUnknown columns f atom term name
IsBindFault columns f Memory = Unit {0}

-- no column has the name
abbrev pub LacksColumn : List Column → List ℕ → Type 0
LacksColumn columns name = ¬ IsTrue (is_among name (map (λ k. k.name) columns))

-- the first term of an atom whose name is no column
pub record IsFirstLacking (columns : List Column) (a : Atom) (i : ℕ) : Type 0 where
  pub term : Term
  pub at : slice_get a.terms i ≡ Some term
  pub lacks : ¬ HasColumn columns term
  pub before : All (HasColumn columns) (take i a.terms)

-- the fault of the atom at a node
abbrev pub IsNodeFault : List Column → ℕ → Atom → BindFault → Type 0
IsNodeFault columns node a (UnknownColumn atom term) = (atom ≡ node) × IsFirstLacking columns a term
IsNodeFault columns node a Memory = Unit {0}

-- the fault of any node
abbrev pub IsFaultAt : List Column → ℕ → Node → BindFault → Type 0
IsFaultAt columns i (Leaf a) e = IsNodeFault columns i a e
IsFaultAt columns i n (UnknownColumn atom term) = ⊥
IsFaultAt columns i n Memory = Unit {0}

-- what a node's place holds in a binding
abbrev pub IsNodeBinding : List Column → Node → Option BoundAtom → Type 0
IsNodeBinding columns (Leaf a) None = ⊥
IsNodeBinding columns (Leaf a) (Some k) = IsAtomBinding columns a k
IsNodeBinding columns n k = Unit {0}

-- what the places of the first nodes hold
pub record AreNodeBindings (columns : List Column) (nodes : List Node) (count : ℕ) (atoms : List (Option BoundAtom)) : Type 0 where
  pub count_is : length atoms ≡ count
  pub each : (i : ℕ) (n : Node) (k : Option BoundAtom) → slice_get nodes i ≡ Some n → slice_get atoms i ≡ Some k → IsNodeBinding columns n k
