use Rattle.std.proofs.Common.{◌++◌, append_assoc, refl, sym, ap, ◌∙◌}
use Rattle.std.proofs.lemmas.Result.{on_ok_weaker, on_err_weaker}
use Rattle.rational.proofs.Lists.{on_err_anyway}
use Rattle.serde_json.specs.View.{view}
use Rattle.report.specs.JsonTexts.{EndsWithList, IsOpened}
use Rattle.answer_lines.proofs.Growths.{part_none}
use Rattle.report.proofs.JsonParts.{text_of_opened}
use Rattle.report.proofs.json.put_opened.Goals as goal
use Rattle.report.proofs.json.put_opened.Goals.{After-inside}

-- what is written behind the brace stands before the list
ends : (c : After-inside) → EndsWithList (view c.args.object.now) c.inside.result.now
ends c = sym (c.deref.ensures.value ∙ c.in_ok-written.ensures.text c.requires.float) ∙ c.inside.ensures

pub inside-requires : goal.inside-requires
inside-requires c =
    let (front, h) = c.requires.list in (front, c.deref.ensures.value ∙ c.in_ok-written.ensures.text c.requires.float ∙ h)

pub returns-in_err-written-clause-err : goal.returns-in_err-written-clause-err
returns-in_err-written-clause-err c =
    let d = view c.args.object.now in
    let (front, h) = c.requires.list in
    on_err_anyway _ (part_none (IsOpened c.args.lead.now d) c.args.text.now c.args.text.now (text_of_opened c.args.lead.now d front h) refl)

pub returns-in_err-push-clause-err : goal.returns-in_err-push-clause-err
returns-in_err-push-clause-err c =
    let d = view c.args.object.now in
    let (front, h) = c.requires.list in
    on_err_anyway _
    (part_none (IsOpened c.args.lead.now d) c.args.text.now c.push.new.self (text_of_opened c.args.lead.now d front h) c.in_err-push.ensures.err)

pub returns-clause-ok : goal.returns-clause-ok
returns-clause-ok c =
    let old = c.args.text.now in
    let lead = c.args.lead.now in
    let front = c.inside.result.now in
    on_ok_weaker c.push-2.result
    (λ e. (
      lead ++ front,
      (front, ends (goal.at.returns-clause-ok c).After-inside, refl),
      e ∙ ap (λ w. w ++ front) c.in_ok-push.ensures.ok ∙ append_assoc old lead front,
    )) c.push-2.ensures.ok

pub returns-clause-err : goal.returns-clause-err
returns-clause-err c =
    let front = c.inside.result.now in
    on_err_weaker c.push-2.result
    (λ e. (c.args.lead.now, front, (front, ends (goal.at.returns-clause-err c).After-inside, refl), e ∙ c.in_ok-push.ensures.ok)) c.push-2.ensures.err
