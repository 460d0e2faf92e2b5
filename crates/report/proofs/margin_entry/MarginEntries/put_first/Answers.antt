use Rattle.std.proofs.Common.{[], refl, ap}
use Rattle.std.proofs.lemmas.Result.{on_ok_weaker, on_err_weaker}
use Rattle.rational.proofs.Lists.{on_err_anyway}
use Rattle.serde_json.specs.View.{view}
use Rattle.serde_json.specs.Written.{compact_text, has_float}
use Rattle.answer_lines.specs.Appended.{Is}
use Rattle.answer_lines.proofs.Growths.{part_none, part_as}
use Rattle.value_laws.specs.Kinds.{margin_shape}
use Rattle.pl_signal.specs.Plain.{plain_knot}
use Rattle.report.specs.JsonTexts.{IsKnotEntry}
use Rattle.report.proofs.JsonParts.{knot_entry_exists}
use Rattle.report.proofs.margin_entry.MarginEntries.put_first.Goals as goal

pub returns-in_err-knot-clause-err : goal.returns-in_err-knot-clause-err
returns-in_err-knot-clause-err c =
    let k = plain_knot margin_shape c.args.k.now in
    on_err_anyway _ (part_none (IsKnotEntry [] c.args.scale k) c.args.text.now c.args.text.now (knot_entry_exists c.args.scale [] k) refl)

pub returns-in_err-texts-clause-err : goal.returns-in_err-texts-clause-err
returns-in_err-texts-clause-err c =
    let k = plain_knot margin_shape c.args.k.now in
    on_err_anyway _ (part_none (IsKnotEntry [] c.args.scale k) c.args.text.now c.args.text.now (knot_entry_exists c.args.scale [] k) refl)

pub fill_knot-requires : goal.fill_knot-requires
fill_knot-requires c = ([], [], c.in_ok-knot.ensures)

pub put_data-requires : goal.put_data-requires
put_data-requires c = ap has_float c.in_ok-fill_knot.ensures.ok

pub returns-in_err-fill_knot-clause-err : goal.returns-in_err-fill_knot-clause-err
returns-in_err-fill_knot-clause-err c =
    let k = plain_knot margin_shape c.args.k.now in
    on_err_anyway _ (part_none (IsKnotEntry [] c.args.scale k) c.args.text.now c.args.text.now (knot_entry_exists c.args.scale [] k) refl)

pub returns-clause-ok : goal.returns-clause-ok
returns-clause-ok c =
    let d = view c.fill_knot.new.knot in
    on_ok_weaker c.put_data.result (λ e. (compact_text d, (d, (_, _, c.in_ok-texts.ensures.at, c.in_ok-texts.ensures.margin, c.in_ok-fill_knot.ensures.ok), refl), e)) c.put_data.ensures.ok

pub returns-clause-err : goal.returns-clause-err
returns-clause-err c =
    let k = plain_knot margin_shape c.args.k.now in
    let d = view c.fill_knot.new.knot in
    on_err_weaker c.put_data.result
    (part_as (Is (compact_text d)) (IsKnotEntry [] c.args.scale k) c.args.text.now c.put_data.new.text
    (λ w h. (d, (_, _, c.in_ok-texts.ensures.at, c.in_ok-texts.ensures.margin, c.in_ok-fill_knot.ensures.ok), h))) c.put_data.ensures.err
