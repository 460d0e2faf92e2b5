use Rattle.std.proofs.Common.{ℕ, List, refl, ap, ◌∙◌, codes}
use Rattle.std.proofs.lemmas.Result.{on_ok_weaker, on_err_weaker}
use Rattle.rational.proofs.Lists.{on_err_anyway}
use Rattle.serde_json.specs.View.{view}
use Rattle.serde_json.specs.Written.{has_float, compact_text}
use Rattle.report.specs.JsonTexts.{AreItemEntries, IsOpened, IsOpening, HeadParts}
use Rattle.answer_lines.proofs.Growths.{grew_as, grew_then, part_as, part_none, part_then, part_first}
use Rattle.report.proofs.JsonData.{head_front, head_ends}
use Rattle.report.proofs.JsonItems.{list_exists}
use Rattle.report.proofs.ReportTexts.{head_exists}
use Rattle.report.proofs.json.put_head.Goals as goal
use Rattle.report.proofs.json.put_head.Goals.{In_ok-head_value}

-- what is opened is the beginning of a report
opened : (c : In_ok-head_value) (text : List ℕ) → IsOpened (codes "{") (view c.in_ok-head_value.field-0) text → IsOpening c.args.formula.now text
opened c text h = (view c.in_ok-head_value.field-0, c.in_ok-head_value.ensures, h)

pub put_opened-requires-clause-float : goal.put_opened-requires-clause-float
put_opened-requires-clause-float c = ap has_float c.in_ok-head_value.ensures.2

pub put_opened-requires-clause-list : goal.put_opened-requires-clause-list
put_opened-requires-clause-list c =
    let (printed, is_printed, is) = c.in_ok-head_value.ensures in (head_front printed, ap compact_text is ∙ head_ends printed)

pub returns-in_err-head_value-clause-err : goal.returns-in_err-head_value-clause-err
returns-in_err-head_value-clause-err c =
    on_err_anyway _ (part_none (HeadParts c.args.scale c.args.formula.now c.args.items.now) c.args.text.now c.args.text.now
    (head_exists c.args.scale c.args.formula.now c.args.items.now c.requires.atoms) refl)

pub returns-in_err-put_opened-clause-err : goal.returns-in_err-put_opened-clause-err
returns-in_err-put_opened-clause-err c =
    let s = c.args.scale in
    let f = c.args.formula.now in
    let items = c.args.items.now in
    on_err_anyway _ (part_first (IsOpening f) (AreItemEntries s f items) c.args.text.now _
    (part_as (IsOpened (codes "{") (view c.in_ok-head_value.field-0)) (IsOpening f) c.args.text.now _
    (opened (goal.at.returns-in_err-put_opened-clause-err c).In_ok-head_value) c.in_err-put_opened.ensures.err)
    (list_exists s f items c.requires.atoms))

pub returns-clause-ok : goal.returns-clause-ok
returns-clause-ok c =
    let s = c.args.scale in
    let f = c.args.formula.now in
    let items = c.args.items.now in
    on_ok_weaker c.put_item_entries.result
    (grew_then (IsOpening f) (AreItemEntries s f items) c.args.text.now _ _
    (grew_as (IsOpened (codes "{") (view c.in_ok-head_value.field-0)) (IsOpening f) c.args.text.now _
    (opened (goal.at.returns-clause-ok c).In_ok-head_value) c.in_ok-put_opened.ensures.ok)) c.put_item_entries.ensures.ok

pub returns-clause-err : goal.returns-clause-err
returns-clause-err c =
    let s = c.args.scale in
    let f = c.args.formula.now in
    let items = c.args.items.now in
    on_err_weaker c.put_item_entries.result
    (part_then (IsOpening f) (AreItemEntries s f items) c.args.text.now _ _
    (grew_as (IsOpened (codes "{") (view c.in_ok-head_value.field-0)) (IsOpening f) c.args.text.now _
    (opened (goal.at.returns-clause-err c).In_ok-head_value) c.in_ok-put_opened.ensures.ok)) c.put_item_entries.ensures.err
