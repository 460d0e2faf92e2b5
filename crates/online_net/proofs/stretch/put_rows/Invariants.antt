use Rattle.online_net.specs.Stretches.{HaveRows}
use Rattle.online_net.proofs.stretch.put_rows.Given as goal

-- the edges of the atoms among the first nodes have the verdicts of the rows
abbrev pub invariant-loop-i : goal.invariant-loop-i
invariant-loop-i l = HaveRows l.bound l.block l.from l.to l.operators l.i l.fn.edges l.edges
