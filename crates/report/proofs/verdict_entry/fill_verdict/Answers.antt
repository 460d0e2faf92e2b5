use Rattle.std.proofs.Common.{ap, sym, subst, codes, ◌∙◌}
use Rattle.serde_json.specs.Find.{get}
use Rattle.serde_json.specs.View.{view}
use Rattle.report.specs.Forms.{IsFirst}
use Rattle.report.proofs.Forms.{verdict_has_on, verdict_on, verdict_on_first}
use Rattle.report.proofs.verdict_entry.fill_verdict.Goals as goal
use Rattle.report.proofs.verdict_entry.fill_verdict.Goals.{After-set_span}

pub set_span-requires-clause-form : goal.set_span-requires-clause-form
set_span-requires-clause-form c = let (o, b, e) = c.requires.form in (o, ap (get (codes "on")) e ∙ verdict_has_on o b)

pub set_span-requires-clause-place : goal.set_span-requires-clause-place
set_span-requires-clause-place c = let (o, b, e) = c.requires.form in subst (IsFirst (codes "on")) (sym e) (verdict_on_first o b)

pub returns-in_err-set_span-clause-form : goal.returns-in_err-set_span-clause-form
returns-in_err-set_span-clause-form c =
    let (o, b, e) = c.requires.form in
    let (w, h) = c.set_span.ensures.form in (w, b, verdict_on (view c.args.verdict.now) (view c.set_span.new.verdict) o w b e h)

pub set_truth-requires : goal.set_truth-requires
set_truth-requires c =
    let (o, b, e) = c.requires.form in
    let (w, h) = c.set_span.ensures.form in (w, b, verdict_on (view c.args.verdict.now) (view c.set_span.new.verdict) o w b e h)

pub returns-clause-ok : goal.returns-clause-ok
returns-clause-ok c =
    let (o, b, e) = c.requires.form in
    let (w, is, h) = c.in_ok-set_span.ensures.ok in
    (w, is, c.set_truth.ensures w b (verdict_on (view c.args.verdict.now) (view c.set_span.new.verdict) o w b e h))

pub returns-clause-form : goal.returns-clause-form
returns-clause-form c =
    let (o, b, e) = c.requires.form in
    let (w, is, h) = c.in_ok-set_span.ensures.ok in
    (w, c.args.v.now.holds, c.set_truth.ensures w b (verdict_on (view c.args.verdict.now) (view c.set_span.new.verdict) o w b e h))
