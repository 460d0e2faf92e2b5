use Rattle.std.proofs.Common.{◌++◌, append_assoc, refl, ap, ◌∙◌}
use Rattle.std.proofs.lemmas.Result.{on_ok_weaker, on_err_weaker}
use Rattle.rational.proofs.Lists.{on_err_anyway}
use Rattle.serde_json.specs.View.{view}
use Rattle.serde_json.specs.Written.{compact_text}
use Rattle.answer_lines.specs.Appended.{Is}
use Rattle.answer_lines.proofs.Growths.{part_none}
use Rattle.report.proofs.entry.put_data.Goals as goal

pub returns-in_err-written-clause-err : goal.returns-in_err-written-clause-err
returns-in_err-written-clause-err c =
    let all = c.args.lead.now ++ compact_text (view c.args.value.now) in
    on_err_anyway _ (part_none (Is all) c.args.text.now c.args.text.now (all, refl) refl)

pub returns-in_err-push-clause-err : goal.returns-in_err-push-clause-err
returns-in_err-push-clause-err c =
    let all = c.args.lead.now ++ compact_text (view c.args.value.now) in
    on_err_anyway _ (part_none (Is all) c.args.text.now c.push.new.self (all, refl) c.in_err-push.ensures.err)

pub returns-clause-ok : goal.returns-clause-ok
returns-clause-ok c =
    let old = c.args.text.now in
    let lead = c.args.lead.now in
    let written = c.deref.result.now in
    on_ok_weaker c.push-2.result
    (λ e. e ∙ ap (λ w. w ++ written) c.in_ok-push.ensures.ok ∙ append_assoc old lead written
    ∙ ap (λ w. old ++ (lead ++ w)) (c.deref.ensures.value ∙ c.in_ok-written.ensures.text c.requires)) c.push-2.ensures.ok

pub returns-clause-err : goal.returns-clause-err
returns-clause-err c =
    on_err_weaker c.push-2.result
    (λ e. (c.args.lead.now, compact_text (view c.args.value.now), refl, e ∙ c.in_ok-push.ensures.ok)) c.push-2.ensures.err
