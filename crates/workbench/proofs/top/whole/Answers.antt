use Rattle.std.proofs.Common.{◌∙◌, ap, refl, sym, Err}
use Rattle.command_line.specs.Words.{command_of}
use Rattle.whole_answers.proofs.CaseSignals.{some_rows}
use Rattle.workbench.specs.Wholes.{answered, unanswered, stopped}
use Rattle.whole_answers.proofs.Progress.{read_itself}
use Rattle.workbench.proofs.RunEnds.{not_unread, only_unwritten, not_stopped, unread_as, starved_as, never_unwritten}
use Rattle.workbench.proofs.top.whole.Goals as goal

pub answer-requires-clause-case : goal.answer-requires-clause-case
answer-requires-clause-case g c = (read_itself c.in-Ok.case c.in-Ok.ensures.read).case

pub answer-requires-clause-some : goal.answer-requires-clause-some
answer-requires-clause-some g c = let t = (read_itself c.in-Ok.case c.in-Ok.ensures.read).whole.trace in some_rows _ c.in-Ok.case.trace.rows t.text.rising.rows

pub returns-in-Err-clause-ending : goal.returns-in-Err-clause-ending
returns-in-Err-clause-ending g c = rw (c.stop_for.ensures) (stopped c.in-Err.reason c.in-Err.ensures.read refl)

pub returns-in-Err-clause-read : goal.returns-in-Err-clause-read
returns-in-Err-clause-read g c = λ e.
    c.in-Err.ensures.unread (ap Err ((unread_as c.in-Err.reason c.stop_for.result c.stop_for.ensures).0 (let k = e in cc)))

pub returns-in-Err-clause-write : goal.returns-in-Err-clause-write
returns-in-Err-clause-write g c = λ e. absurd (never_unwritten c.in-Err.reason (sym c.stop_for.ensures ∙ (let k = e in cc)))

pub returns-in-Err-clause-read_due : goal.returns-in-Err-clause-read_due
returns-in-Err-clause-read_due g c = λ other.
    c.in-Err.ensures.still (λ e. other (ap Err ((unread_as c.in-Err.reason c.stop_for.result c.stop_for.ensures).1 (let k = e in cc))))

pub returns-in-Err-clause-ends : goal.returns-in-Err-clause-ends
returns-in-Err-clause-ends g c = λ other.
    c.in-Err.ensures.ends (λ e. other (ap Err (starved_as c.in-Err.reason c.stop_for.result c.stop_for.ensures (let k = e in cc))))

pub returns-in-Ok-answer-clause-ending : goal.returns-in-Ok-answer-clause-ending
returns-in-Ok-answer-clause-ending g c =
    let read = read_itself c.in-Ok.case c.in-Ok.ensures.read in
    answered c.in-Ok.case c.in-Ok-answer.answer.holds c.in-Ok-answer.answer.text read c.in-Ok-answer.ensures c.write_answer.ensures.written

pub returns-in-Ok-answer-clause-read : goal.returns-in-Ok-answer-clause-read
returns-in-Ok-answer-clause-read g c = λ e. absurd (not_unread c.write_answer.ensures.written e)

pub returns-in-Ok-answer-clause-nothing : goal.returns-in-Ok-answer-clause-nothing
returns-in-Ok-answer-clause-nothing g c = λ err other. absurd (only_unwritten c.write_answer.ensures.written err other)

pub returns-clause-ending : goal.returns-clause-ending
returns-clause-ending g c =
    let read = read_itself c.in-Ok.case c.in-Ok.ensures.read in
    rw (c.stop_for-in-Err-answer.ensures) (unanswered c.in-Ok.case c.in-Err-answer.reason read c.in-Err-answer.ensures refl)

pub returns-clause-read : goal.returns-clause-read
returns-clause-read g c = λ e. absurd
    ((not_stopped (command_of c.args.command) c.args.formula.now c.in-Ok.case.trace c.in-Err-answer.reason c.in-Err-answer.ensures).0
    (sym c.stop_for-in-Err-answer.ensures ∙ (let k = e in cc)))

pub returns-clause-write : goal.returns-clause-write
returns-clause-write g c = λ e. absurd
    ((not_stopped (command_of c.args.command) c.args.formula.now c.in-Ok.case.trace c.in-Err-answer.reason c.in-Err-answer.ensures).1
    (sym c.stop_for-in-Err-answer.ensures ∙ (let k = e in cc)))
