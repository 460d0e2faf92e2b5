use Rattle.std.proofs.Common.{◌≡◌, ◌++◌, subst, sym, ap, ◌∙◌}
use Rattle.std.specs.Prelude.{All}
use Rattle.implicants.specs.Explaining.{IsExplained}
use Rattle.report.specs.ItemLines.{IsOfAtom}
use Rattle.report.specs.Report.{json, explain as explaining}
use Rattle.report.specs.ReportText.{IsReportText}
use Rattle.explained_answers.specs.Reasons.{truth_of, items_of}
use Rattle.whole_answers.specs.Judging.{IsAnswerOf, IsUnanswered}
use Rattle.explained_answers.proofs.ExplainTexts.{nodes_of, atoms_of_reasons, unreasoned}
use Rattle.explained_answers.proofs.CaseReports.{few, reported, unreported, unmarked}
use Rattle.explained_answers.proofs.json.give_report.Goals as goal

pub margins_of-requires-clause-case : goal.margins_of-requires-clause-case
margins_of-requires-clause-case c = (c.args.formula.now, c.requires.case)

pub put_json-requires-clause-atoms : goal.put_json-requires-clause-atoms
put_json-requires-clause-atoms c =
    let is = c.in-Ok-reasons_for.ensures in
    subst (All (IsOfAtom c.args.formula.now)) (sym c.truth_and_items-holds.ensures.items)
    (atoms_of_reasons c.args.formula.now c.args.case.now is.0 c.in-Ok-reasons_for.both.0 c.requires.case is.1)

pub returns-in-Err-reasons_for : goal.returns-in-Err-reasons_for
returns-in-Err-reasons_for c =
    let f = c.args.formula.now in
    let tr = c.args.case.now.trace in
    unreported f tr c.fault_stop.result
    (subst (IsUnanswered explaining f tr) (sym c.fault_stop.ensures)
    (unreasoned f c.args.case.now c.in-Err-reasons_for.fault c.requires.case c.in-Err-reasons_for.ensures))

pub returns-in-Err-margins_of : goal.returns-in-Err-margins_of
returns-in-Err-margins_of c =
    let f = c.args.formula.now in
    let case = c.args.case.now in
    let is = c.in-Ok-reasons_for.ensures in
    unmarked f case.trace c.in-Err-margins_of.stop
    (few f case.trace is.0 c.in-Ok-reasons_for.both.0
    (subst (λ ns. IsExplained ns case.trace is.0 c.in-Ok-reasons_for.both.0) (nodes_of f case c.requires.case) is.1))
    (c.in-Err-margins_of.ensures.none f c.requires.case)

pub returns-in-Ok-put_json : goal.returns-in-Ok-put_json
returns-in-Ok-put_json c =
    let f = c.args.formula.now in
    let case = c.args.case.now in
    let is = c.in-Ok-reasons_for.ensures in
    let (w, report, e) = c.in-Ok-put_json.ensures.ok in
    let text_is : c.put_json.new.text ≡ w = e ∙ ap (λ o. o ++ w) c.new-text.ensures in
    let of : IsReportText case.formula.scale f c.in-Ok.truth c.in-Ok-margins_of.margins (items_of c.in-Ok-reasons_for.both.0) w =
    subst (λ x. IsReportText case.formula.scale f x c.in-Ok-margins_of.margins (items_of c.in-Ok-reasons_for.both.0) w) is.2
    (subst (λ s. IsReportText s f c.in-Ok-reasons_for.both.1 c.in-Ok-margins_of.margins (items_of c.in-Ok-reasons_for.both.0) w) c.scale-scale.ensures.scale
    (subst (λ items. IsReportText c.scale-scale.result f c.in-Ok-reasons_for.both.1 c.in-Ok-margins_of.margins items w)
    c.truth_and_items-holds.ensures.items report)) in
    subst (λ h. IsAnswerOf json f case.trace h c.put_json.new.text) (sym c.truth_and_items-holds.ensures.truth)
    (subst (IsAnswerOf json f case.trace (truth_of c.in-Ok-reasons_for.both.0)) (sym text_is)
    (reported f case c.requires.case c.in-Ok.truth c.in-Ok-margins_of.margins w c.in-Ok.ensures
    c.in-Ok-margins_of.ensures.told is.0 c.in-Ok-reasons_for.both.0 is.1 c.len.ensures.well_formed of))
