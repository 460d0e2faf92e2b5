use Rattle.workbench.proofs.Endings.{written_whole, written_part}
use Rattle.workbench.proofs.top.write_answer.Goals as goal

pub returns-in-Ok-clause-written : goal.returns-in-Ok-clause-written
returns-in-Ok-clause-written g c =
    written_whole c.args.answer.now.holds c.args.answer.now.text c.bytes.result.now (g.K.Sink.written c.args.out.now)
    (g.K.Sink.written c.write_all.new.sink) c.bytes.ensures c.in-Ok.ensures.written

pub returns-in-Err-clause-written : goal.returns-in-Err-clause-written
returns-in-Err-clause-written g c =
    written_part c.args.answer.now.holds c.args.answer.now.text c.bytes.result.now (g.K.Sink.written c.args.out.now)
    (g.K.Sink.written c.write_all.new.sink) c.bytes.ensures c.in-Err.ensures.written
