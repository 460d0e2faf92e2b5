use Rattle.implicants.proofs.NodeCells.{IsListed}
use Rattle.implicants.proofs.cells.add_cells.Given as goal

abbrev pub invariant-loop-k : goal.invariant-loop-k
invariant-loop-k l = IsListed l.formula.nodes l.trace l.node l.signal l.times l.fn.items.items l.k l.place l.items.items
