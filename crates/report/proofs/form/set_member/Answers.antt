use Rattle.std.proofs.Common.{refl, sym, subst, ap, ◌∙◌}
use Rattle.std.specs.Prelude.{IsSome}
use Rattle.std.proofs.lemmas.Result.{on_ok_weaker}
use Rattle.serde_json.specs.Data.{string}
use Rattle.serde_json.specs.Find.{as_str}
use Rattle.serde_json.specs.View.{members_view}
use Rattle.report.specs.Forms.{replaced}
use Rattle.report.proofs.Forms.{found, not_missed, view-set_value}
use Rattle.report.proofs.form.set_member.Goals as goal

pub put_text-requires : goal.put_text-requires
put_text-requires c =
    let is = found c.args.key.now c.args.members.now.entries c.in-Some.slot.now c.requires.0 c.in-Some.ensures.value c.requires.1 in
    subst (λ d. IsSome (as_str d)) (sym is) refl

pub unreachable-requires : goal.unreachable-requires
unreachable-requires c = not_missed c.args.key.now c.args.members.now.entries (string c.requires.0) c.in-None.ensures.value c.requires.1

pub returns-clause-ok : goal.returns-clause-ok
returns-clause-ok c =
    let k = c.args.key.now in
    let es = c.args.members.now.entries in
    on_ok_weaker c.put_text.result
    (λ e. ap members_view (c.get_mut.follows.holds c.put_text.new.slot).0 ∙ view-set_value k es c.put_text.new.slot
    ∙ ap (λ d. replaced k d (members_view es)) e) c.put_text.ensures.ok

pub returns-clause-form : goal.returns-clause-form
returns-clause-form c =
    let k = c.args.key.now in
    let es = c.args.members.now.entries in
    let (s, e) = c.put_text.ensures.form in (
      s,
      ap members_view (c.get_mut.follows.holds c.put_text.new.slot).0 ∙ view-set_value k es c.put_text.new.slot
          ∙ ap (λ d. replaced k d (members_view es)) e,
    )
