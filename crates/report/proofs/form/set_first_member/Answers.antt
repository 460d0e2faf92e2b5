use Rattle.std.proofs.Common.{refl, sym, subst, ap, ◌∙◌, true≢false}
use Rattle.std.specs.Prelude.{IsSome}
use Rattle.std.proofs.lemmas.Result.{on_ok_weaker}
use Rattle.serde_json.specs.Data.{string}
use Rattle.serde_json.specs.Find.{as_str}
use Rattle.report.proofs.Forms.{begins_with, begins_some, written_at}
use Rattle.report.proofs.form.set_first_member.Goals as goal

pub unreachable-requires : goal.unreachable-requires
unreachable-requires c =
    let k = c.args.key.now in
    let (s, h, place) = c.requires in
    true≢false (sym (c.in-None.ensures.variant.1 (begins_some k (string s) c.args.members.now.entries h)))

pub put_text-requires : goal.put_text-requires
put_text-requires c =
    let k = c.args.key.now in
    let (s, h, place) = c.requires in
    let es = c.args.members.now.entries in
    let (name, told) = begins_with k (string s) es h _ c.in-Some.ensures.key _
    (sym c.in-Some.ensures.value.0 ∙ c.into_mut.ensures.value) in
    subst (λ d. IsSome (as_str d)) (sym told) refl

pub returns-clause-ok : goal.returns-clause-ok
returns-clause-ok c =
    let k = c.args.key.now in
    let (s, h, place) = c.requires in
    let es = c.args.members.now.entries in
    let (name, told) = begins_with k (string s) es h _ c.in-Some.ensures.key _
    (sym c.in-Some.ensures.value.0 ∙ c.into_mut.ensures.value) in
    on_ok_weaker c.put_text.result
    (λ e. written_at k es _ _ c.put_text.new.slot (string c.args.content.now) name
    (ap (λ m. m.entries) (c.members-in-Some-1.given.1 (sym c.in-Some.ensures.same_map))
    ∙ c.in-Some.ensures.update.1 c.put_text.new.slot) e
    ∙ place (string c.args.content.now)) c.put_text.ensures.ok

pub returns-clause-form : goal.returns-clause-form
returns-clause-form c =
    let k = c.args.key.now in
    let (s, h, place) = c.requires in
    let es = c.args.members.now.entries in
    let (name, told) = begins_with k (string s) es h _ c.in-Some.ensures.key _
    (sym c.in-Some.ensures.value.0 ∙ c.into_mut.ensures.value) in
    let (t, e) = c.put_text.ensures.form in (
      t,
      written_at k es _ _ c.put_text.new.slot (string t) name
          (ap (λ m. m.entries) (c.members-in-Some-1.given.1 (sym c.in-Some.ensures.same_map))
          ∙ c.in-Some.ensures.update.1 c.put_text.new.slot) e
          ∙ place (string t),
    )
