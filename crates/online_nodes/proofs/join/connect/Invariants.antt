use Rattle.std.proofs.Common.{◌+◌, length}
use Rattle.online_nodes.specs.Held.{fresh_at}
use Rattle.online_nodes.proofs.JoinLemmas.{HasGoneOn}
use Rattle.online_nodes.proofs.join.connect.Given as goal

abbrev pub invariant-loop-next : goal.invariant-loop-next
invariant-loop-next l = HasGoneOn l.initial.edges l.edges l.join l.inputs l.fn.out l.here

abbrev pub decreases-loop-next : goal.decreases-loop-next
decreases-loop-next l = length (fresh_at l.edges l.inputs.left) + length (fresh_at l.edges l.inputs.right)
