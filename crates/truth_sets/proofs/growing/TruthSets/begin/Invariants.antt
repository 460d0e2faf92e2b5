use Rattle.std.proofs.Common.{◌≡◌, ◌<◌, ℕ, length, Some}
use Rattle.std.specs.Prelude.{slice_get}
use Rattle.stl_syntax.specs.declared.atom.Atom.{Atom}
use Rattle.stl_syntax.specs.declared.node.Node.TheVariants.{Atom as Leaf}
use Rattle.stl_syntax.specs.Trace.{first_time}
use Rattle.atom_lines.specs.Rows.{row_of}
use Rattle.truth_sets.specs.Rows.{HasGrown}
use Rattle.truth_sets.specs.declared.atom.NodeSet.{NodeSet}
use Rattle.truth_sets.proofs.growing.TruthSets.begin.Given as goal

abbrev pub invariant-loop-i : goal.invariant-loop-i
invariant-loop-i l = record {
  first : l.self.first ≡ first_time l.trace.rows;
  count : length l.self.sets.items ≡ length l.formula.nodes;
  each : (k : ℕ) (a : Atom) (s : NodeSet) → k < l.i → slice_get l.formula.nodes k ≡ Some (Leaf a) → slice_get l.self.sets.items k ≡ Some s
      → HasGrown l.bound k l.trace.header l.trace.rows (row_of l.trace 0) s;
}
