use Rattle.std.proofs.Common.{◌+◌}
use Rattle.whole_answers.specs.Answering.{setting_of}
use Rattle.whole_answers.proofs.CaseSignals.{over_same, stands_back, stands_over}
use Rattle.whole_answers.proofs.signals.put_made.Goals as goal

pub make-requires-clause-kind : goal.make-requires-clause-kind
make-requires-clause-kind g c = c.requires.kind

pub make-requires-clause-stands : goal.make-requires-clause-stands
make-requires-clause-stands g c = stands_over g.P.Shape g.P.AtomShape.reading c.args.case.now c.first-from.result c.last-to.result c.args.i c.args.stack.now
    c.first-from.ensures c.last-to.ensures.last c.requires.before.stands

pub returns-in-Ok-clause-after : goal.returns-in-Ok-clause-after
returns-in-Ok-clause-after g c = record {
  stands = stands_back g.P.Shape g.P.AtomShape.reading c.args.case.now c.first-from.result c.last-to.result (c.args.i + 1) c.make.new.self
      c.first-from.ensures c.last-to.ensures.last c.in-Ok.ensures.stands;
  told = c.in-Ok.ensures.told (setting_of g.P.Shape g.P.AtomShape.reading c.args.case.now.trace)
      (over_same g.P.Shape g.P.AtomShape.reading c.args.case.now c.first-from.result c.last-to.result c.first-from.ensures c.last-to.ensures.last)
      c.requires.before.told;
}

pub returns-in-Err-clause-wide : goal.returns-in-Err-clause-wide
returns-in-Err-clause-wide g c = c.in-Err.ensures.wide (setting_of g.P.Shape g.P.AtomShape.reading c.args.case.now.trace)
    (over_same g.P.Shape g.P.AtomShape.reading c.args.case.now c.first-from.result c.last-to.result c.first-from.ensures c.last-to.ensures.last)
    c.requires.before.told
