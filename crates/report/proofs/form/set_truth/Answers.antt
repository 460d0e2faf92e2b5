use Rattle.std.proofs.Common.{◌∙◌, ap, refl, sym, subst, codes, ℕ, List, Bool}
use Rattle.std.specs.Prelude.{◌≡◌}
use Rattle.serde_json.specs.Data.{object, boolean, put}
use Rattle.serde_json.specs.View.{view, members_view}
use Rattle.serde_json.proofs.Views.{view-Object}
use Rattle.report.specs.Forms.{EndAt}
use Rattle.report.proofs.Forms.{object_of, not_object, same_members, verdict_members, verdict_with_truth}
use Rattle.report.proofs.form.set_truth.Goals as goal
use Rattle.report.proofs.form.set_truth.Goals.{In-Some}

-- its members are those of a verdict
members : (c : In-Some) (on : List ℕ) (b : Bool) → view c.args.verdict.now ≡ object (verdict_members on b)
    → members_view c.in-Some.members.now.entries ≡ verdict_members on b
members c on b e =
    same_members (view c.args.verdict.now) (members_view c.in-Some.members.now.entries) (verdict_members on b)
    (object_of (view c.args.verdict.now) (members_view c.in-Some.members.now.entries) c.in-Some.ensures.value) e

pub set_last_truth-requires : goal.set_last_truth-requires
set_last_truth-requires c =
    let (on, b, e) = c.requires in
    (codes "value", b, subst (EndAt (codes "value") (boolean b)) (sym (members (goal.at.set_last_truth-requires c).In-Some on b e)) (refl, refl))

pub unreachable-requires : goal.unreachable-requires
unreachable-requires c = let (on, b, e) = c.requires in not_object (view c.args.verdict.now) (verdict_members on b) e c.in-None.ensures.value

pub returns : goal.returns
returns c = λ on b e.
    let is = members (goal.at.returns c).In-Some on b e in
    let new = c.set_last_truth.ensures (codes "value") b (subst (EndAt (codes "value") (boolean b)) (sym is) (refl, refl)) in
    view-Object c.set_last_truth.new.members
    ∙ ap object (new ∙ (ap (put (codes "value") (boolean c.args.holds)) is ∙ verdict_with_truth on b c.args.holds))
