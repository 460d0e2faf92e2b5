use Rattle.std.proofs.Common.{◌≡◌, ◌-◌, sym, subst, arith}
use Rattle.std.proofs.lemmas.Result.{on_ok_weaker, on_err_weaker}
use Rattle.csv.specs.Writing.{row_text, default_writer}
use Rattle.value_laws.specs.Kinds.{margin_shape}
use Rattle.pl_signal.specs.Plain.{knots_of, plain_knot}
use Rattle.rational.specs.Knots.{last_knot}
use Rattle.rational.proofs.Lists.{on_err_anyway}
use Rattle.answer_lines.specs.Appended.{Grew, AreEach, Then, Is}
use Rattle.answer_lines.specs.Steps.{steps_of}
use Rattle.report.specs.Table.{IsTableText, heading}
use Rattle.report.specs.TableRows.{IsStepRow, IsLastRow}
use Rattle.answer_lines.proofs.Growths.{grew_is, grew_then, grew_as, part_none, part_then, part_first, part_as}
use Rattle.answer_lines.proofs.MarginTexts.{knot_within}
use Rattle.report.proofs.StepLemmas.{last_is}
use Rattle.report.proofs.TableTexts.{TableParts, table_text, table_exists, last_row_exists}
use Rattle.report.proofs.table.put_table.Goals as goal
use Rattle.report.proofs.table.put_table.Goals.{After-knot}

-- the record of the last knot is that of the last of the plain knots
last_row : (c : After-knot)
    → last_knot (knots_of margin_shape c.args.s.now).first (knots_of margin_shape c.args.s.now).pieces ≡ plain_knot margin_shape c.knot.result
last_row c = last_is margin_shape c.args.s.now (c.len-last.result - 1) c.knot.result (omega arith) c.knot.ensures

pub returns-in_err-put_row-clause-err : goal.returns-in_err-put_row-clause-err
returns-in_err-put_row-clause-err c =
    let knots = knots_of margin_shape c.args.s.now in
    on_err_anyway _
    (part_none (IsTableText c.args.scale knots) c.args.text.now c.put_row.new.text (table_exists c.args.scale knots) c.in_err-put_row.ensures.err)

pub returns-in_err-put_steps-clause-err : goal.returns-in_err-put_steps-clause-err
returns-in_err-put_steps-clause-err c =
    let s = c.args.scale in
    let knots = knots_of margin_shape c.args.s.now in
    let last = last_knot knots.first knots.pieces in
    let Head = Is (row_text default_writer heading) in
    let Body = AreEach (IsStepRow s) (steps_of knots) in
    let old = c.args.text.now in
    let mid = c.put_row.new.text in
    let new = c.put_steps.new.text in
    on_err_anyway _ (part_as (TableParts s knots) (IsTableText s knots) old new (table_text s knots)
    (part_first (Then Head Body) (IsLastRow s last) old new
    (part_then Head Body old mid new (grew_is (row_text default_writer heading) old mid c.in_ok-put_row.ensures.ok) c.in_err-put_steps.ensures.err)
    (last_row_exists s last)))

pub put_last-requires-clause-within : goal.put_last-requires-clause-within
put_last-requires-clause-within c =
    knot_within margin_shape _ c.args.s.now (c.len-last.result - 1) c.knot.result c.len-last.ensures.signal c.knot.ensures c.requires.begins c.requires.ends

pub returns-clause-ok : goal.returns-clause-ok
returns-clause-ok c =
    let s = c.args.scale in
    let knots = knots_of margin_shape c.args.s.now in
    let Head = Is (row_text default_writer heading) in
    let Body = AreEach (IsStepRow s) (steps_of knots) in
    let Last = IsLastRow s (last_knot knots.first knots.pieces) in
    let old = c.args.text.now in
    let m1 = c.put_row.new.text in
    let m2 = c.put_steps.new.text in
    let new = c.put_last.new.text in
    let front = grew_then Head Body old m1 m2 (grew_is (row_text default_writer heading) old m1 c.in_ok-put_row.ensures.ok) c.in_ok-put_steps.ensures.ok in
    let is_last = last_row (goal.at.returns-clause-ok c).After-knot in
    on_ok_weaker c.put_last.result
    (λ g. grew_as (TableParts s knots) (IsTableText s knots) old new (table_text s knots)
    (grew_then (Then Head Body) Last old m2 new front (subst (λ k. Grew (IsLastRow s k) m2 new) (sym is_last) g))) c.put_last.ensures.ok

pub returns-clause-err : goal.returns-clause-err
returns-clause-err c =
    let s = c.args.scale in
    let knots = knots_of margin_shape c.args.s.now in
    let Head = Is (row_text default_writer heading) in
    let Body = AreEach (IsStepRow s) (steps_of knots) in
    let last = last_knot knots.first knots.pieces in
    let old = c.args.text.now in
    let m1 = c.put_row.new.text in
    let m2 = c.put_steps.new.text in
    let new = c.put_last.new.text in
    let front = grew_then Head Body old m1 m2 (grew_is (row_text default_writer heading) old m1 c.in_ok-put_row.ensures.ok) c.in_ok-put_steps.ensures.ok in
    on_err_weaker c.put_last.result
    (λ e. part_as (TableParts s knots) (IsTableText s knots) old new (table_text s knots)
    (part_then (Then Head Body) (IsLastRow s last) old m2 new front (part_none (IsLastRow s last) m2 new (last_row_exists s last) e))) c.put_last.ensures.err
