use Rattle.workload_summary.proofs.LineCounts.{HasCounted}
use Rattle.workload_summary.proofs.lines.line_count.Given as goal

abbrev pub invariant-loop-i : goal.invariant-loop-i
invariant-loop-i l = HasCounted l.text l.i l.lines
