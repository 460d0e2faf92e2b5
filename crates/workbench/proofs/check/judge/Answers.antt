use Rattle.std.proofs.Common.{◌∙◌, ap, refl, sym, Err}
use Rattle.workbench.specs.Wholes.{answered, unanswered, stopped}
use Rattle.whole_answers.specs.declared.no_answer.NoAnswer.TheVariants.{NoMemory}
use Rattle.workbench.proofs.RunEnds.{check_answer, not_unread, only_unwritten, unread_as, starved_as, never_unwritten}
use Rattle.workbench.proofs.check.judge.Goals as goal

pub returns-in-Err-clause-ending : goal.returns-in-Err-clause-ending
returns-in-Err-clause-ending g c = rw (c.stop_for.ensures) (stopped c.in-Err.reason c.in-Err.ensures.read refl)

pub returns-in-Err-clause-read : goal.returns-in-Err-clause-read
returns-in-Err-clause-read g c = λ e.
    c.in-Err.ensures.unread (ap Err ((unread_as c.in-Err.reason c.stop_for.result c.stop_for.ensures).0 (let k = e in cc)))

pub returns-in-Err-clause-write : goal.returns-in-Err-clause-write
returns-in-Err-clause-write g c = λ e. absurd (never_unwritten c.in-Err.reason (sym c.stop_for.ensures ∙ (let k = e in cc)))

pub returns-in-Err-clause-read_due : goal.returns-in-Err-clause-read_due
returns-in-Err-clause-read_due g c = λ other.
    c.in-Err.ensures.still (λ e. other (ap Err ((unread_as c.in-Err.reason c.stop_for.result c.stop_for.ensures).1 (let k = e in cc))))

pub returns-in-Err-clause-ends : goal.returns-in-Err-clause-ends
returns-in-Err-clause-ends g c = λ other.
    c.in-Err.ensures.ends (λ e. other (ap Err (starved_as c.in-Err.reason c.stop_for.result c.stop_for.ensures (let k = e in cc))))

pub returns-in_default-clause-ending : goal.returns-in_default-clause-ending
returns-in_default-clause-ending g c =
    let r = c.in-Ok.ensures.read in
    unanswered r.case NoMemory r.read tt refl

pub finish-requires : goal.finish-requires
finish-requires g c =
    let r = c.in-Ok.ensures.read in
    let t = r.read.whole.trace in
    (r.case, r.for_case, record { rows = t.text.rising.rows })

pub returns-in-Ok-finish-clause-ending : goal.returns-in-Ok-finish-clause-ending
returns-in-Ok-finish-clause-ending g c =
    let r = c.in-Ok.ensures.read in
    let t = r.read.whole.trace in
    let a = c.in-Ok-finish.told in
    let (text, left, wrote) = c.write_lines.ensures.written in
    answered r.case a.holds text r.read
    (check_answer c.args.formula.now r.case.trace a.holds text
    (c.in-Ok-finish.ensures.told c.args.formula.now r.case text r.read.case r.for_case (record { rows = t.text.rising.rows }) left))
    wrote

pub returns-in-Ok-finish-clause-read : goal.returns-in-Ok-finish-clause-read
returns-in-Ok-finish-clause-read g c = λ e. let (text, left, wrote) = c.write_lines.ensures.written in absurd (not_unread wrote e)

pub returns-in-Ok-finish-clause-nothing : goal.returns-in-Ok-finish-clause-nothing
returns-in-Ok-finish-clause-nothing g c = λ err other. let (text, left, wrote) = c.write_lines.ensures.written in absurd (only_unwritten wrote err other)

pub returns-clause-ending : goal.returns-clause-ending
returns-clause-ending g c =
    let r = c.in-Ok.ensures.read in
    unanswered r.case NoMemory r.read tt refl
