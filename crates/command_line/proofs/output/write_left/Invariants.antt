use Rattle.std.proofs.Common.{ℕ, List, ◌++◌}
use Rattle.io_edge.specs.Causes.{HasCause}
use Rattle.command_line.specs.Writing.{IsWritten}
use Rattle.command_line.proofs.output.write_left.Given as goal

abbrev pub invariant-loop-so_far : goal.invariant-loop-so_far
invariant-loop-so_far g l = record {
  can : g.L.LinesLeft.can_go_on l.left;
  so : (text : List ℕ) × IsWritten (g.K.Sink.written l.initial.sink) (g.K.Sink.written l.sink) l.so_far text
      × ((later : List ℕ) → g.L.LinesLeft.is_left l.left later → g.L.LinesLeft.is_left l.initial.left (text ++ later));
  cause : HasCause (g.K.Sink.faults l.initial.sink) (g.K.Sink.faults l.sink) l.so_far;
}

abbrev pub decreases-loop-so_far : goal.decreases-loop-so_far
decreases-loop-so_far g l = g.L.LinesLeft.count l.left
