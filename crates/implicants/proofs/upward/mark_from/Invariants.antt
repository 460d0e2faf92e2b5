use Rattle.std.proofs.Common.{◌≡◌, ◌≤◌, length}
use Rattle.value_laws.specs.Kinds.{kleene_shape}
use Rattle.implicants.specs.Upward.{AreLostFrom, HasChains}
use Rattle.implicants.proofs.LostWithout.{PutsFrom}
use Rattle.implicants.proofs.upward.mark_from.Given as goal

abbrev pub invariant-loop-c : goal.invariant-loop-c
invariant-loop-c l = record {
  within : l.c ≤ l.left;
  count : length l.marks.items ≡ length l.fn.marks.items;
  put : PutsFrom l.formula.nodes l.trace l.cells.all.items l.left l.c l.fn.marks.items l.marks.items;
  runs : length l.runs.items ≡ length l.formula.nodes;
  lost : AreLostFrom l.formula.nodes l.trace l.cells.all.items l.marks.items l.c l.ground.signs.items l.runs.items;
  chains : HasChains kleene_shape l.formula.nodes l.trace l.done.items;
}

abbrev pub decreases-loop-c : goal.decreases-loop-c
decreases-loop-c l = l.c
