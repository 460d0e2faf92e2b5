use Rattle.std.proofs.Common.{◌≡◌, ◌*◌, ◌≤◌}
use Rattle.verdict_stream.proofs.SteadyNodes.{back_before}
use Rattle.verdict_stream.proofs.quiet.back_of.Given as goal

-- the sum over the first nodes
abbrev pub invariant-loop-i : goal.invariant-loop-i
invariant-loop-i l = record {
  sum : l.back ≡ back_before l.formula.nodes l.i;
  small : l.back ≤ l.i * 4294967295;
}
