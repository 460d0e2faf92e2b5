-- The sets of a formula's atoms over the rows so far, and what they come to at the end.
use Rattle.std.specs.Prelude.{◌≡◌, ℕ, List, length, Some, slice_get}
use Rattle.stl_syntax.specs.Trace.{Header, Row, Trace, first_time}
use Rattle.stl_syntax.specs.Formula.{root}
use Rattle.stl_syntax.specs.declared.atom.Atom.{Atom}
use Rattle.stl_syntax.specs.declared.node.Node.{Node}
use Rattle.stl_syntax.specs.declared.node.Node.TheVariants.{Atom as Leaf}
use Rattle.atom_lines.specs.Binding.{Binding}
use Rattle.time_sets.specs.Windows.{IsDomain}
use Rattle.truth_sets.specs.Rows.{HasGrown}
use Rattle.truth_sets.specs.Telling.{IsOver, TellsTruth}
use Rattle.truth_sets.specs.declared.atom.NodeSet.{NodeSet}
use Rattle.truth_sets.specs.declared.growing.TruthSets.{TruthSets}
use Rattle.truth_sets.specs.declared.growing.Judged.{Judged}

-- there is a set for each node, and that of each atom tells it over the rows, up to this one
pub record HaveGrown (b : Binding) (nodes : List Node) (header : Header) (rows : List Row) (r : Row) (sets : List NodeSet) : Type 0 where
  pub count : length sets ≡ length nodes
  pub each : (i : ℕ) (a : Atom) (s : NodeSet) → slice_get nodes i ≡ Some (Leaf a) → slice_get sets i ≡ Some s → HasGrown b i header rows r s

-- they stand for these rows, the last of which is this one
pub record StandFor (x : TruthSets) (b : Binding) (nodes : List Node) (header : Header) (rows : List Row) (r : Row) : Type 0 where
  pub first : x.first ≡ first_time rows
  pub grown : HaveGrown b nodes header rows r x.sets.items

-- there is a set for each node, and no row has come
abbrev pub AreNone : TruthSets → List Node → Type 0
AreNone x nodes = length x.sets.items ≡ length nodes

-- over the trace the set has each time exactly where the formula is true there
pub record TellsRoot (nodes : List Node) (tr : Trace) (j : Judged) : Type 0 where
  pub domain : IsDomain j.on
  pub over : IsOver j.on tr
  pub told : TellsTruth j.on tr (root nodes) j.times
