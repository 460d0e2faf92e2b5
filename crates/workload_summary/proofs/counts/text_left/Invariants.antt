use Rattle.std.proofs.Common.{ℕ, List, ◌++◌}
use Rattle.workload_summary.proofs.counts.text_left.Given as goal

abbrev pub invariant-loop-text : goal.invariant-loop-text
invariant-loop-text g l = record {
  can : g.L.LinesLeft.can_go_on l.left;
  so : (later : List ℕ) → g.L.LinesLeft.is_left l.left later → g.L.LinesLeft.is_left l.initial.left (l.text ++ later);
}

abbrev pub decreases-loop-text : goal.decreases-loop-text
decreases-loop-text g l = g.L.LinesLeft.count l.left
