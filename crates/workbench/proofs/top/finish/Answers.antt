use Rattle.workbench.proofs.Endings.{nothing_said}
use Rattle.workbench.proofs.top.finish.Goals as goal

pub returns-in-Ok-true-clause-said : goal.returns-in-Ok-true-clause-said
returns-in-Ok-true-clause-said g c = nothing_said c.args.formula.now c.args.ending c.in-Ok-true.field-0
    (g.E.Sink.written c.args.err.now) (g.E.Sink.faults c.args.err.now) c.in-Ok-true.is

pub returns-in-Ok-false-clause-said : goal.returns-in-Ok-false-clause-said
returns-in-Ok-false-clause-said g c = nothing_said c.args.formula.now c.args.ending c.in-Ok-false.field-0
    (g.E.Sink.written c.args.err.now) (g.E.Sink.faults c.args.err.now) c.in-Ok-false.is
