use Rattle.online_net.proofs.Fresh.{AreJoining}
use Rattle.online_net.proofs.net.joining_edges.Given as goal

abbrev pub invariant-loop-i : goal.invariant-loop-i
invariant-loop-i l = AreJoining l.count l.i l.edges
