use Rattle.std.proofs.Common.{ap, sym, subst, codes, ◌∙◌}
use Rattle.std.proofs.lemmas.Result.{on_ok_weaker}
use Rattle.serde_json.specs.Find.{get}
use Rattle.serde_json.specs.View.{view}
use Rattle.report.specs.Forms.{IsKnotForm, IsFirst, IsLast}
use Rattle.report.proofs.Forms.{knot_has_at, knot_has_margin, knot_at, knot_margin, knot_at_first, knot_margin_last}
use Rattle.report.proofs.margin_entry.fill_knot.Goals as goal
use Rattle.report.proofs.margin_entry.fill_knot.Goals.{After-set_first}

-- with a time it is of the same kind
timed : (c : After-set_first) → IsKnotForm (view c.set_first.new.object)
timed c =
    let (a, m, e) = c.requires in
    let (t, h) = c.set_first.ensures.form in (t, m, knot_at (view c.args.knot.now) (view c.set_first.new.object) a m t e h)

pub set_first-requires-clause-form : goal.set_first-requires-clause-form
set_first-requires-clause-form c = let (a, m, e) = c.requires in (a, ap (get (codes "at")) e ∙ knot_has_at a m)

pub set_first-requires-clause-place : goal.set_first-requires-clause-place
set_first-requires-clause-place c = let (a, m, e) = c.requires in subst (IsFirst (codes "at")) (sym e) (knot_at_first a m)

pub returns-in_err-set_first-clause-form : goal.returns-in_err-set_first-clause-form
returns-in_err-set_first-clause-form c = timed (goal.at.returns-in_err-set_first-clause-form c).After-set_first

pub set_last-requires-clause-form : goal.set_last-requires-clause-form
set_last-requires-clause-form c =
    let (a, m, e) = timed (goal.at.set_last-requires-clause-form c).After-set_first in (m, ap (get (codes "margin")) e ∙ knot_has_margin a m)

pub set_last-requires-clause-place : goal.set_last-requires-clause-place
set_last-requires-clause-place c =
    let (a, m, e) = timed (goal.at.set_last-requires-clause-place c).After-set_first in subst (IsLast (codes "margin")) (sym e) (knot_margin_last a m)

pub returns-clause-ok : goal.returns-clause-ok
returns-clause-ok c =
    let at = c.args.at.now in
    let (a, m, e) = c.requires in
    let timed = knot_at (view c.args.knot.now) (view c.set_first.new.object) a m at e c.in_ok-set_first.ensures.ok in
    on_ok_weaker c.set_last.result (λ h. knot_margin (view c.set_first.new.object) (view c.set_last.new.object) at m c.args.margin.now timed h)
    c.set_last.ensures.ok

pub returns-clause-form : goal.returns-clause-form
returns-clause-form c =
    let (t, m, e) = timed (goal.at.returns-clause-form c).After-set_first in
    let (v, h) = c.set_last.ensures.form in (t, v, knot_margin (view c.set_first.new.object) (view c.set_last.new.object) t m v e h)
