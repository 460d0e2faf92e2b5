use Rattle.online_net.specs.Steps.{AreFirstOperators}
use Rattle.online_net.proofs.net.operators_of.Given as goal

abbrev pub invariant-loop-i : goal.invariant-loop-i
invariant-loop-i l = AreFirstOperators l.formula.nodes l.operators.items l.i
