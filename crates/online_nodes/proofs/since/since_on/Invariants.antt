use Rattle.std.proofs.Common.{◌+◌, length}
use Rattle.online_nodes.specs.Held.{fresh_at}
use Rattle.online_nodes.proofs.SinceReads.{HasCome}
use Rattle.online_nodes.proofs.since.since_on.Given as goal

abbrev pub invariant-loop-next : goal.invariant-loop-next
invariant-loop-next l = HasCome l.initial.edges l.edges l.since l.fn.course l.here

abbrev pub decreases-loop-next : goal.decreases-loop-next
decreases-loop-next l = length (fresh_at l.edges l.since.window.of) + length (fresh_at l.edges l.since.right)
