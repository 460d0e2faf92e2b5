use Rattle.std.proofs.Common.{◌∙◌, subst}
use Rattle.std.specs.Prelude.{◌≡◌}
use Rattle.std.proofs.lemmas.Result.{on_ok_weaker}
use Rattle.serde_json.specs.Data.{object, string}
use Rattle.serde_json.specs.View.{view, members_view}
use Rattle.serde_json.proofs.Views.{view-Object}
use Rattle.report.specs.Forms.{EndsAt}
use Rattle.report.proofs.Forms.{same_members, object_of, has_members, object_with}
use Rattle.report.proofs.form.set_last.Goals as goal
use Rattle.report.proofs.form.set_last.Goals.{In-Some}

-- it is an object
is_object : (c : In-Some) → view c.args.object.now ≡ object (members_view c.in-Some.members.now.entries)
is_object c = object_of (view c.args.object.now) (members_view c.in-Some.members.now.entries) c.in-Some.ensures.value

pub set_last_member-requires : goal.set_last_member-requires
set_last_member-requires c =
    let (ms, e, place) = c.requires.place in
    let is = is_object (goal.at.set_last_member-requires c).In-Some in
    subst (EndsAt c.args.key.now) (same_members (view c.args.object.now) ms (members_view c.in-Some.members.now.entries) e is) place

pub unreachable-requires : goal.unreachable-requires
unreachable-requires c = has_members c.args.key.now (view c.args.object.now) (string c.requires.form.0) c.requires.form.1 c.in-None.ensures.value

pub returns-clause-ok : goal.returns-clause-ok
returns-clause-ok c =
    let is = is_object (goal.at.returns-clause-ok c).In-Some in
    let k = c.args.key.now in
    let ms = members_view c.in-Some.members.now.entries in
    on_ok_weaker c.set_last_member.result
    (λ e. view-Object c.set_last_member.new.members
    ∙ object_with (view c.args.object.now) ms (members_view c.set_last_member.new.members.entries) k (string c.args.content.now) is
    e) c.set_last_member.ensures.ok

pub returns-clause-form : goal.returns-clause-form
returns-clause-form c =
    let is = is_object (goal.at.returns-clause-form c).In-Some in
    let (s, e) = c.set_last_member.ensures.form in (
      s,
      view-Object c.set_last_member.new.members
          ∙ object_with (view c.args.object.now) (members_view c.in-Some.members.now.entries) (members_view c.set_last_member.new.members.entries)
          c.args.key.now (string s) is e,
    )
