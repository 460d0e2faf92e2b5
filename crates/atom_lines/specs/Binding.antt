-- A formula's atoms with a header's columns in place of names, and which rows of a trace stand for them.
use Rattle.std.specs.Prelude.{◌≡◌, ◌≢◌, ℕ, zero, suc, Bool, List, [], ◌∷◌, length, Option, Some, slice_get}
use Rattle.stl_syntax.specs.Trace.{Column, Row, Header, Trace, IsTrace}
use Rattle.stl_syntax.specs.Formula.{Formula}
use Rattle.stl_syntax.specs.declared.atom.Atom.{Atom}
use Rattle.stl_syntax.specs.declared.atom.Term.{Term}
use Rattle.stl_syntax.specs.declared.node.Node.TheVariants.{Atom as Leaf}
use Rattle.atom_lines.specs.declared.bound_atom.BoundTerm.{BoundTerm}
use Rattle.atom_lines.specs.declared.bound_atom.BoundAtom.{BoundAtom}

-- how many columns a row has, and the atoms, each at the place of its node
pub record Binding : Type 0 where
  pub width : ℕ
  pub atoms : List (Option BoundAtom)

-- the first column of that name stands at the place, and its values are steps or not
abbrev pub IsColumn : List Column → List ℕ → ℕ → Bool → Type 0
IsColumn [] name place step = ⊥
IsColumn (k ∷ columns) name zero step = (k.name ≡ name) × (k.step ≡ step)
IsColumn (k ∷ columns) name (suc place) step = (k.name ≢ name) × IsColumn columns name place step

-- the column of the term, with the term's coefficient
pub record IsTermBinding (columns : List Column) (t : Term) (k : BoundTerm) : Type 0 where
  pub coef : k.coef ≡ t.coef
  pub column : IsColumn columns t.name k.column k.step

-- the columns of the terms, one for each
abbrev pub AreTermBindings : List Column → List Term → List BoundTerm → Type 0
AreTermBindings columns [] [] = Unit {0}
AreTermBindings columns [] (k ∷ ks) = ⊥
AreTermBindings columns (t ∷ ts) [] = ⊥
AreTermBindings columns (t ∷ ts) (k ∷ ks) = IsTermBinding columns t k × AreTermBindings columns ts ks

-- the atom with columns in place of names
pub record IsAtomBinding (columns : List Column) (a : Atom) (k : BoundAtom) : Type 0 where
  pub terms : AreTermBindings columns a.terms k.terms.items
  pub rel : k.rel ≡ a.rel
  pub limit : k.limit ≡ a.limit

-- the binding has the atoms of the formula, over the columns of the header
pub record IsBound (b : Binding) (f : Formula) (h : Header) : Type 0 where
  pub width : b.width ≡ length h.columns
  pub atoms : (i : ℕ) (a : Atom) → slice_get f.nodes i ≡ Some (Leaf a) → (k : BoundAtom) × (slice_get b.atoms i ≡ Some (Some k)) × IsAtomBinding h.columns a k

-- the node is an atom
abbrev pub IsAtomNode : Binding → ℕ → Type 0
IsAtomNode b i = (k : BoundAtom) × (slice_get b.atoms i ≡ Some (Some k))

-- the binding is for a formula with this atom at this node, and for the columns of the trace
pub record IsFor (b : Binding) (i : ℕ) (a : Atom) (tr : Trace) : Type 0 where
  pub formula : Formula
  pub bound : IsBound b formula tr.header
  pub node : slice_get formula.nodes i ≡ Some (Leaf a)
  pub rows : IsTrace tr

-- the row stands in the trace
abbrev pub HasRow : Trace → Row → Type 0
HasRow tr r = (k : ℕ) × (slice_get tr.rows k ≡ Some r)

-- the rows stand in the trace, the second right after the first
abbrev pub AreNeighbours : Trace → Row → Row → Type 0
AreNeighbours tr r s = (k : ℕ) × (slice_get tr.rows k ≡ Some r) × (slice_get tr.rows (suc k) ≡ Some s)
