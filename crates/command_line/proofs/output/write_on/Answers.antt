use Rattle.std.proofs.Common.{subst}
use Rattle.io_edge.specs.Causes.{HasCause}
use Rattle.command_line.proofs.Devices.{all_of, part_of, part_more, written_on, cause_on}
use Rattle.command_line.proofs.output.write_on.Goals as goal

pub returns-in-Ok-clause-written : goal.returns-in-Ok-clause-written
returns-in-Ok-clause-written g c = λ before text so.
    written_on before _ _ text c.args.piece.now c.write_all.result (all_of before _ text c.args.so_far _ c.in-Ok.is so) c.write_all.ensures.written

pub returns-in-Ok-clause-cause : goal.returns-in-Ok-clause-cause
returns-in-Ok-clause-cause g c = λ before so. cause_on before _ _ c.args.so_far _ c.write_all.result c.in-Ok.is so c.write_all.ensures.cause

pub returns-in-Err-clause-written : goal.returns-in-Err-clause-written
returns-in-Err-clause-written g c = λ before text so. part_more before _ text c.args.piece.now (part_of before _ text c.args.so_far _ c.in-Err.is so)

pub returns-in-Err-clause-cause : goal.returns-in-Err-clause-cause
returns-in-Err-clause-cause g c = λ before so. subst (λ r. HasCause before (g.K.Sink.faults c.args.sink.now) r) c.in-Err.is so
