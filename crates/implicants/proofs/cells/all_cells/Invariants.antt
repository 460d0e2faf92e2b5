use Rattle.implicants.specs.Runs.{AreCellsBelow}
use Rattle.implicants.proofs.cells.all_cells.Given as goal

abbrev pub invariant-loop-i : goal.invariant-loop-i
invariant-loop-i l = AreCellsBelow l.formula.nodes l.trace l.i l.items.items l.ends.items
