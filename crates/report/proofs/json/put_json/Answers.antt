use Rattle.std.proofs.Common.{ℕ, List, true}
use Rattle.std.proofs.lemmas.Result.{on_ok_weaker, on_err_weaker}
use Rattle.rational.proofs.Lists.{on_err_anyway}
use Rattle.answer_lines.specs.Appended.{Then}
use Rattle.report.specs.JsonTexts.{HeadParts}
use Rattle.report.specs.ReportText.{IsReportText, TailParts}
use Rattle.answer_lines.proofs.Growths.{grew_as, grew_then, part_as, part_then, part_first}
use Rattle.report.proofs.ReportTexts.{report_is, tail_exists, signal_entries_exist}
use Rattle.report.proofs.json.put_json.Goals as goal
use Rattle.report.proofs.json.put_json.Goals.{After-start_of-holds}

abbrev Head : After-start_of-holds → List ℕ → Type 0
Head c = HeadParts c.args.scale c.args.formula.now c.args.items.now

abbrev Tail : After-start_of-holds → List ℕ → Type 0
Tail c = TailParts c.args.scale c.args.truth.now c.args.margins.now c.start_of-holds.result

abbrev Whole : After-start_of-holds → List ℕ → Type 0
Whole c = IsReportText c.args.scale c.args.formula.now c.args.truth.now c.args.margins.now c.args.items.now

-- the report from its parts
whole : (c : After-start_of-holds) (text : List ℕ) → Then (Head c) (Tail c) text → Whole c text
whole c = report_is c.args.scale c.args.truth.now c.args.margins.now c.start_of-holds.result c.args.formula.now c.args.items.now c.start_of-holds.ensures.worth

pub returns-in_err-put_head-clause-err : goal.returns-in_err-put_head-clause-err
returns-in_err-put_head-clause-err c =
    let f = (goal.at.returns-in_err-put_head-clause-err c).After-start_of-holds in
    let tail =
    tail_exists c.args.scale c.args.truth.now c.args.margins.now c.start_of-holds.result
    (signal_entries_exist true c.args.scale c.args.truth.now c.start_of-holds.ensures.signal) in
    on_err_anyway _ (part_as (Then (Head f) (Tail f)) (Whole f) c.args.text.now _ (whole f)
    (part_first (Head f) (Tail f) c.args.text.now _ c.in_err-put_head.ensures.err tail))

pub returns-clause-ok : goal.returns-clause-ok
returns-clause-ok c =
    let f = (goal.at.returns-clause-ok c).After-start_of-holds in
    on_ok_weaker c.put_tail.result
    (λ g. grew_as (Then (Head f) (Tail f)) (Whole f) c.args.text.now _ (whole f)
    (grew_then (Head f) (Tail f) c.args.text.now _ _ c.in_ok-put_head.ensures.ok g)) c.put_tail.ensures.ok

pub returns-clause-err : goal.returns-clause-err
returns-clause-err c =
    let f = (goal.at.returns-clause-err c).After-start_of-holds in
    on_err_weaker c.put_tail.result
    (λ g. part_as (Then (Head f) (Tail f)) (Whole f) c.args.text.now _ (whole f)
    (part_then (Head f) (Tail f) c.args.text.now _ _ c.in_ok-put_head.ensures.ok g)) c.put_tail.ensures.err
