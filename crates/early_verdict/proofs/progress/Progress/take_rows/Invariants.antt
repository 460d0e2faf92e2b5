use Rattle.std.proofs.Common.{◌-◌, ◌++◌, List, take, drop, false}
use Rattle.stl_syntax.specs.Trace.{Header, Row}
use Rattle.early_verdict.specs.Answers.{StaysDecided}
use Rattle.early_verdict.specs.BlockRows.{row_before}
use Rattle.early_verdict.specs.Deciding.{Stands, kept_of}
use Rattle.early_verdict.proofs.progress.Progress.take_rows.Given as goal

abbrev pub invariant-loop-at : goal.invariant-loop-at
invariant-loop-at l = record {
  stands : (header : Header) (rows : List Row) → Stands (kept_of l.formula l.bound header (row_before l.block l.from) l.initial.self) rows false
      → Stands (kept_of l.formula l.bound header (row_before l.block l.at) l.self) (rows ++ take (l.at - l.from) (drop l.from l.block.rows)) false;
  decided : StaysDecided l.initial.self.decided l.self.decided;
}
