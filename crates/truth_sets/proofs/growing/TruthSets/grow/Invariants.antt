use Rattle.std.proofs.Common.{◌≡◌, ◌<◌, ◌≤◌, ◌-◌, ℕ, List, length, Some}
use Rattle.std.specs.Prelude.{slice_get}
use Rattle.stl_syntax.specs.declared.atom.Atom.{Atom}
use Rattle.stl_syntax.specs.declared.node.Node.TheVariants.{Atom as Leaf}
use Rattle.stl_syntax.specs.Trace.{Header, Row}
use Rattle.atom_lines.specs.Rows.{row_of}
use Rattle.truth_sets.specs.Growing.{IsTail}
use Rattle.truth_sets.specs.Rows.{HasGrown}
use Rattle.truth_sets.specs.declared.atom.NodeSet.{NodeSet}
use Rattle.truth_sets.proofs.growing.TruthSets.grow.Given as goal

abbrev pub invariant-loop-i : goal.invariant-loop-i
invariant-loop-i l = record {
  first : l.self.first ≡ l.initial.self.first;
  count : length l.self.sets.items ≡ length l.initial.self.sets.items;
  later : (k : ℕ) → l.i ≤ k → slice_get l.self.sets.items k ≡ slice_get l.initial.self.sets.items k;
  each : (k : ℕ) (a : Atom) (old s : NodeSet) (header : Header) (rows : List Row) → k < l.i → slice_get l.formula.nodes k ≡ Some (Leaf a)
      → slice_get l.initial.self.sets.items k ≡ Some old → slice_get l.self.sets.items k ≡ Some s → IsTail l.trace header rows
      → HasGrown l.bound k header rows (row_of l.trace 0) old → HasGrown l.bound k header rows (row_of l.trace (length l.trace.rows - 1)) s;
}
