-- What a header lacks for a formula: a column, or room for its numbers in the trace's ticks.
use Rattle.std.specs.Prelude.{◌≡◌, ℕ, List, map, take, All, IsTrue, Some, slice_get}
use Rattle.stl_syntax.specs.Trace.{Column}
use Rattle.stl_syntax.specs.Formula.{Formula}
use Rattle.stl_syntax.specs.Scaling.{scaled}
use Rattle.stl_syntax.specs.Characters.{is_among}
use Rattle.stl_syntax.specs.Limits.{IsTooLarge}
use Rattle.stl_syntax.specs.declared.scale.Scale.{Scale}
use Rattle.stl_syntax.specs.declared.atom.Atom.{Atom}
use Rattle.stl_syntax.specs.declared.atom.Term.{Term}
use Rattle.stl_syntax.specs.declared.node.Node.{Node}
use Rattle.stl_syntax.specs.declared.node.Node.TheVariants.{Atom as Leaf}
use Rattle.stl_syntax.specs.declared.scale.UnitFault.{UnitFault}
use Rattle.stl_syntax.specs.declared.scale.UnitFault.TheVariants.{Constant, Reach}

-- the term names a column
abbrev pub HasColumn : List Column → Term → Type 0
HasColumn columns t = IsTrue (is_among t.name (map (λ k. k.name) columns))

-- each term of the node names a column
abbrev pub HasColumns : List Column → Node → Type 0
HasColumns columns (Leaf a) = All (HasColumn columns) a.terms
HasColumns columns n = Unit {0}

-- the first term in post-order that names no column, by its node and its place in it
pub record IsUnknown (columns : List Column) (f : Formula) (atom term : ℕ) (name : List ℕ) : Type 0 where
  pub owner : Atom
  pub lacking : Term
  pub at_atom : slice_get f.nodes atom ≡ Some (Leaf owner)
  pub at_term : slice_get owner.terms term ≡ Some lacking
  pub named : lacking.name ≡ name
  pub no_column : ¬ HasColumn columns lacking
  pub terms_before : All (HasColumn columns) (take term owner.terms)
  pub nodes_before : All (HasColumns columns) (take atom f.nodes)

-- the formula's numbers do not fit in the ticks of the scale
abbrev pub IsUnitFault : Formula → Scale → UnitFault → Type 0
IsUnitFault f scale = IsTooLarge Constant Reach (scaled f scale).nodes
