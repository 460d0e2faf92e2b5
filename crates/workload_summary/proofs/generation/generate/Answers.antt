use Rattle.std.proofs.Common.{[], refl, subst}
use Rattle.std.specs.Io.KnownBytes.{Appends}
use Rattle.std.proofs.KnownBytes.{Appends-nil}
use Rattle.command_line.specs.ErrTexts.{out_of_memory, write_fault}
use Rattle.workload_summary.specs.Made.{written, cut_off, no_room}
use Rattle.command_line.specs.Saying.{IsSaid, whole}
use Rattle.command_line.specs.Writing.{IsPartWritten}
use Rattle.workload_summary.proofs.generation.generate.Goals as goal

pub returns-in_default-clause-made : goal.returns-in_default-clause-made
returns-in_default-clause-made g c = (
  out_of_memory,
  no_room refl,
  subst
      (λ line. IsSaid (g.E.Sink.written c.args.err.now) (g.E.Sink.written c.say.new.err) (g.E.Sink.faults c.args.err.now) (g.E.Sink.faults c.say.new.err) line)
      c.no_memory_line.ensures c.say.ensures.said,
)

pub returns-in-Ok-write_all-clause-made : goal.returns-in-Ok-write_all-clause-made
returns-in-Ok-write_all-clause-made g c = (
  [],
  written c.in-Ok.ensures
      (subst (λ text. Appends (g.K.Sink.written c.args.out.now) (g.K.Sink.written c.write_all.new.sink) text) c.bytes.ensures
      c.in-Ok-write_all.ensures.written),
  whole (Appends-nil (g.E.Sink.written c.args.err.now)),
)

pub returns-clause-made : goal.returns-clause-made
returns-clause-made g c = (
  write_fault,
  cut_off c.in-Ok.ensures
      (subst (λ text. IsPartWritten (g.K.Sink.written c.args.out.now) (g.K.Sink.written c.write_all.new.sink) text) c.bytes.ensures c.in-Err.ensures.written)
      c.in-Err.ensures.cause.failed,
  subst (λ line. IsSaid (g.E.Sink.written c.args.err.now) (g.E.Sink.written c.say-in-Err.new.err) (g.E.Sink.faults c.args.err.now)
      (g.E.Sink.faults c.say-in-Err.new.err) line) c.write_fault_line.ensures c.say-in-Err.ensures.said,
)
