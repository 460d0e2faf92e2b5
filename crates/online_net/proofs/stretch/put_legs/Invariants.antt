use Rattle.std.proofs.Common.{ℕ, ◌-◌}
use Rattle.online_nodes.specs.Held.{Held}
use Rattle.online_net.specs.Stretches.{HasCome}
use Rattle.online_net.proofs.stretch.put_legs.Given as goal

-- the atom has come to a row on the way
abbrev pub invariant-loop-along : goal.invariant-loop-along
invariant-loop-along l =
    (from : ℕ) (e : Held) → HasCome l.bound l.block from l.to l.node e l.fn.edges l.fn.begun → HasCome l.bound l.block from l.to l.node e l.edges l.along

abbrev pub decreases-loop-along : goal.decreases-loop-along
decreases-loop-along l = l.to - l.along.at
