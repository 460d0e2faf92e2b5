use Rattle.std.proofs.Common.{◌+◌, length}
use Rattle.online_nodes.specs.Held.{fresh_at}
use Rattle.online_nodes.proofs.UntilGoes.{HasGoneOn}
use Rattle.online_nodes.proofs.until.until_on.Given as goal

abbrev pub invariant-loop-next : goal.invariant-loop-next
invariant-loop-next l = HasGoneOn l.initial.edges l.edges l.until l.fn.sweep l.here

abbrev pub decreases-loop-next : goal.decreases-loop-next
decreases-loop-next l = length (fresh_at l.edges l.until.window.of) + length (fresh_at l.edges l.until.right)
