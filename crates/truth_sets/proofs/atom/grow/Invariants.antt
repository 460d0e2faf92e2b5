use Rattle.std.proofs.Common.{◌≤◌, ◌-◌, List}
use Rattle.stl_syntax.specs.Trace.{Header, Row}
use Rattle.atom_lines.specs.Rows.{row_of}
use Rattle.truth_sets.specs.Growing.{IsTail}
use Rattle.truth_sets.specs.Rows.{HasGrown}
use Rattle.truth_sets.proofs.atom.grow.Given as goal

abbrev pub invariant-loop-at : goal.invariant-loop-at
invariant-loop-at l = record {
  within : l.at ≤ l.last;
  grown : (header : Header) (rows : List Row) → IsTail l.trace header rows → HasGrown l.bound l.node header rows (row_of l.trace 0) l.initial.set
      → HasGrown l.bound l.node header rows (row_of l.trace l.at) l.set;
}

abbrev pub decreases-loop-at : goal.decreases-loop-at
decreases-loop-at l = l.last - l.at
