use Rattle.std.proofs.Common.{ap, codes, ◌∙◌}
use Rattle.std.proofs.lemmas.Result.{on_ok_weaker}
use Rattle.serde_json.specs.Data.{string}
use Rattle.serde_json.specs.View.{view}
use Rattle.report.specs.Forms.{with_member}
use Rattle.answer_lines.proofs.TextsBehind.{add_then, add_as}
use Rattle.answer_lines.proofs.Spans.{before, after, span_text}
use Rattle.report.proofs.Forms.{with_same}
use Rattle.report.proofs.verdict_entry.set_span.Goals as goal

pub returns-clause-ok : goal.returns-clause-ok
returns-clause-ok c =
    let on = c.args.on.now in
    let (A, is_a, few_a, a) = c.put-comma.ensures in
    let (B, is_b, few_b, b) = c.put_new-close.ensures in
    let begin = add_as {v = before on.from_in} c.bracket.ensures c.add_byte-from.ensures in
    let end = add_as {v = after on.to_in} c.closing.ensures c.add_byte-end.ensures in
    let all = add_then (add_then (add_then (add_then begin a) c.add_byte-to.ensures) b) end in
    on_ok_weaker c.set_first.result
    (λ e. (_, span_text c.args.scale on A B is_a is_b, e ∙ ap (λ w. with_member (codes "on") (string w) (view c.args.verdict.now)) (c.in_ok-span.ensures.same ∙ all.added)))
    c.set_first.ensures.ok

pub returns-in_err-span-clause-form : goal.returns-in_err-span-clause-form
returns-in_err-span-clause-form c =
    let (s, h) = c.requires.form in (s, with_same (codes "on") (string s) (view c.args.verdict.now) h)
