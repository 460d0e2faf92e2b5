use Rattle.std.proofs.Common.{ℕ}
use Rattle.atom_lines.specs.Binding.{Binding}
use Rattle.online_nodes.specs.Held.{Held}
use Rattle.online_net.specs.Stretches.{CanPutInside, HasPutRows}
use Rattle.online_net.proofs.stretch.put_inside.Given as goal

-- the verdicts of the rows so far were put behind those before them
abbrev pub invariant-loop-r : goal.invariant-loop-r
invariant-loop-r l = (b : Binding) (first : ℕ) (e : Held) → CanPutInside b l.block first l.from l.to l.node l.holds e l.fn.edges
    → HasPutRows b l.block first l.r l.node e l.edges
