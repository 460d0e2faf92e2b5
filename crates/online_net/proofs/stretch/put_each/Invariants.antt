use Rattle.std.proofs.Common.{◌≤◌, ◌-◌}
use Rattle.online_net.specs.Stretches.{HasComeTo}
use Rattle.online_net.proofs.stretch.put_each.Given as goal

-- the atom has come to a spot on the way
abbrev pub invariant-loop-here : goal.invariant-loop-here
invariant-loop-here l = HasComeTo l.bound l.block l.from l.node l.fn.edges l.edges l.here × (l.here.at ≤ l.to)

abbrev pub decreases-loop-here : goal.decreases-loop-here
decreases-loop-here l = l.to - l.here.at
