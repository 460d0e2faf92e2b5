use Rattle.std.proofs.Common.{◌++◌, refl, ap}
use Rattle.std.proofs.lemmas.Result.{on_ok_weaker, on_err_weaker}
use Rattle.rational.proofs.Lists.{on_err_anyway}
use Rattle.serde_json.specs.View.{view}
use Rattle.serde_json.specs.Written.{compact_text, has_float}
use Rattle.answer_lines.specs.Appended.{Is}
use Rattle.answer_lines.proofs.Growths.{part_none, part_as}
use Rattle.report.specs.JsonTexts.{IsItemEntry}
use Rattle.report.proofs.JsonParts.{item_entry_exists}
use Rattle.report.proofs.entry.put_item_entry.Goals as goal

pub put_data-requires : goal.put_data-requires
put_data-requires c = ap has_float c.in_ok-entry.ensures.2.4

pub returns-in_err-entry-clause-err : goal.returns-in_err-entry-clause-err
returns-in_err-entry-clause-err c =
    let s = c.args.scale in
    let f = c.args.formula.now in
    let e = c.args.item.now in
    on_err_anyway _ (part_none (IsItemEntry c.args.lead.now s f e) c.args.text.now c.args.text.now
    (item_entry_exists s c.args.lead.now f e c.requires.atom) refl)

pub returns-clause-ok : goal.returns-clause-ok
returns-clause-ok c =
    let d = view c.in_ok-entry.entry in
    on_ok_weaker c.put_data.result (λ e. (c.args.lead.now ++ compact_text d, (d, c.in_ok-entry.ensures, refl), e)) c.put_data.ensures.ok

pub returns-clause-err : goal.returns-clause-err
returns-clause-err c =
    let s = c.args.scale in
    let f = c.args.formula.now in
    let e = c.args.item.now in
    let d = view c.in_ok-entry.entry in
    on_err_weaker c.put_data.result
    (part_as (Is (c.args.lead.now ++ compact_text d)) (IsItemEntry c.args.lead.now s f e) c.args.text.now c.put_data.new.text
    (λ w h. (d, c.in_ok-entry.ensures, h))) c.put_data.ensures.err
