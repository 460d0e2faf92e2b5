use Rattle.std.proofs.Common.{◌≡◌, ◌≤◌, suc, ◌-◌, ◌∙◌, length, sym, subst, arith}
use Rattle.stl_syntax.specs.Trace.{first_time}
use Rattle.stl_syntax.proofs.RowsLemmas.{first_to_last, last_time_at}
use Rattle.whole_answers.proofs.CaseSignals.{no_row}
use Rattle.whole_answers.proofs.signals.last.Goals as goal

pub returns-clause-last : goal.returns-clause-last
returns-clause-last c =
    let rows = c.args.trace.now.rows in
    let count : length rows ≡ suc (c.rows.result - 1) = let e = c.rows.ensures.count in let some = c.requires in omega arith in
    c.time.ensures no_row ∙ sym (last_time_at 0 rows (c.rows.result - 1) no_row count)

pub returns-clause-later : goal.returns-clause-later
returns-clause-later c =
    let rows = c.args.trace.now.rows in
    let count : length rows ≡ suc (c.rows.result - 1) = let e = c.rows.ensures.count in let some = c.requires in omega arith in
    let is = c.time.ensures no_row ∙ sym (last_time_at 0 rows (c.rows.result - 1) no_row count) in
    subst (λ n. first_time rows ≤ n) (sym is)
    (first_to_last c.args.trace.now (c.rows.ensures.trace (let e = c.rows.ensures.count in let some = c.requires in omega arith)))
