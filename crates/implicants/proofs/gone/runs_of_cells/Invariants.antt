use Rattle.std.proofs.Common.{◌≡◌, length}
use Rattle.implicants.specs.Upward.{AreLostEach}
use Rattle.implicants.proofs.gone.runs_of_cells.Given as goal

abbrev pub invariant-loop-i : goal.invariant-loop-i
invariant-loop-i l = record {
  count : length l.each.items ≡ l.i;
  lost : AreLostEach l.formula.nodes l.trace l.cells.all.items l.marks (length l.cells.all.items) l.signs l.each.items;
}
