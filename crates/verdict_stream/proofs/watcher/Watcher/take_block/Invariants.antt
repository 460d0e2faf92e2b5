use Rattle.std.proofs.Common.{ℕ, ◌-◌, ◌<◌, List, length, false}
use Rattle.trace_stream.specs.Streams.{verdicts}
use Rattle.trace_stream.specs.Kept.{with_rows}
use Rattle.trace_stream.specs.Following.{IsOpen, IsOpenOn}
use Rattle.trace_stream.specs.declared.case.Case.{Case}
use Rattle.online_net.specs.Stretches.{rows_between}
use Rattle.verdict_stream.specs.Watching.{Watches, IsOwing, IsLastAt}
use Rattle.verdict_stream.proofs.watcher.Watcher.take_block.Given as goal

abbrev pub decreases-loop-at : goal.decreases-loop-at
decreases-loop-at l = length l.block.rows - l.at

abbrev pub invariant-loop-at : goal.invariant-loop-at
invariant-loop-at l = record {
  within : l.at < length l.block.rows;
  followed : (c : Case) (made : List ℕ) → IsOpen (Watches false l.initial.self) (IsOwing l.initial.self) verdicts c made → IsLastAt l.block 0 c.trace
      → IsOpenOn (Watches false l.self) (IsOwing l.self) verdicts (with_rows (rows_between l.block 0 l.at) c) l.initial.text l.text made;
}
