use Rattle.pieces.proofs.NegatedChains.{AreOppositeTo}
use Rattle.pieces.proofs.negation.negate_each.Given as goal

abbrev pub invariant-loop-i : goal.invariant-loop-i
invariant-loop-i g l = AreOppositeTo g.P.Shape l.i l.fn.items.items l.items.items
