use Rattle.std.proofs.Common.{sym, subst}
use Rattle.pl_signal.specs.Knots as knots
use Rattle.stl_syntax.specs.Trace.{first_time, last_time}
use Rattle.report.specs.Report.{robust}
use Rattle.whole_answers.specs.Judging.{IsUnanswered}
use Rattle.whole_answers.proofs.RobustAnswers.{tick_within, unmeasured}
use Rattle.whole_answers.proofs.robust.margins_of.Goals as goal

pub returns-in-Ok-clause-begins : goal.returns-in-Ok-clause-begins
returns-in-Ok-clause-begins c =
    tick_within (knots.start c.in-Ok.signal) (first_time c.args.case.now.trace.rows) c.in-Ok.ensures.told.tells.begins c.in-Ok.ensures.begins

pub returns-in-Ok-clause-ends : goal.returns-in-Ok-clause-ends
returns-in-Ok-clause-ends c =
    tick_within (knots.stop c.in-Ok.signal) (last_time 0 c.args.case.now.trace.rows) c.in-Ok.ensures.told.tells.ends c.in-Ok.ensures.ends

pub returns-in-Err-clause-none : goal.returns-in-Err-clause-none
returns-in-Err-clause-none c = λ f is.
    subst (IsUnanswered robust f c.args.case.now.trace) (sym c.fault_stop.ensures) (unmeasured c.args.case.now f is c.in-Err.fault c.in-Err.ensures.wide)
