use Rattle.std.proofs.Common.{◌≡◌, ◌<◌, ◌≤◌, ◌-◌, length, take}
use Rattle.stl_syntax.specs.Trace.{last_time}
use Rattle.trace_reader.specs.Blocks.{AreRowsAdded}
use Rattle.trace_reader.proofs.room.Heading.take_while.Given as goal

abbrev pub invariant-loop-block : goal.invariant-loop-block
invariant-loop-block l = record {
  within : l.block.bytes ≤ length l.piece;
  few : l.block.rows ≤ l.most;
  width : length l.trace.header.columns ≡ length l.self.heading.columns;
  later : 0 < length l.trace.rows → last_time 0 l.trace.rows < l.block.next;
  added : AreRowsAdded l.self l.from l.block.next l.initial.trace l.trace l.block.rows (take l.block.bytes l.piece);
}

abbrev pub decreases-loop-block : goal.decreases-loop-block
decreases-loop-block l = l.most - l.block.rows
