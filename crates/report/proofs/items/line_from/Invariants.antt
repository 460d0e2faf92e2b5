use Rattle.report.proofs.JoinedLines.{JoinsItems}
use Rattle.report.proofs.items.line_from.Given as goal

abbrev pub invariant-loop-k : goal.invariant-loop-k
invariant-loop-k l = JoinsItems l.items l.i l.k l.line
