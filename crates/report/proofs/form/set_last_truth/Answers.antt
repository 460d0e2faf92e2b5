use Rattle.std.proofs.Common.{◌-◌, length, refl, sym, subst, ap, ◌∙◌, true≢false, arith}
use Rattle.std.specs.Prelude.{IsSome}
use Rattle.serde_json.specs.Data.{boolean}
use Rattle.serde_json.specs.Find.{as_bool}
use Rattle.report.proofs.Forms.{ends_with, ends_some, written_at}
use Rattle.report.proofs.form.set_last_truth.Goals as goal

pub unreachable-requires : goal.unreachable-requires
unreachable-requires c =
    let (k, b, h) = c.requires in
    true≢false (sym (c.in-None.ensures.variant.1 (ends_some k (boolean b) c.args.members.now.entries h)))

pub put_truth-requires : goal.put_truth-requires
put_truth-requires c =
    let (k, b, h) = c.requires in
    let es = c.args.members.now.entries in
    let some = ends_some k (boolean b) es h in
    let (_, told) = ends_with k (boolean b) es (length es - 1) (omega (arith, some)) h _ c.in-Some.ensures.key _
    (sym c.in-Some.ensures.value.0 ∙ c.into_mut.ensures.value) in
    subst (λ d. IsSome (as_bool d)) (sym told) refl

pub returns : goal.returns
returns c = λ k b h.
    let es = c.args.members.now.entries in
    let some = ends_some k (boolean b) es h in
    let (name, _) = ends_with k (boolean b) es (length es - 1) (omega (arith, some)) h _ c.in-Some.ensures.key _
    (sym c.in-Some.ensures.value.0 ∙ c.into_mut.ensures.value) in
    let new = c.members-in-Some-1.given.1 (sym c.in-Some.ensures.same_map) in
    written_at k es _ _ c.put_truth.new.slot (boolean c.args.holds) name
    (ap (λ m. m.entries) new ∙ c.in-Some.ensures.update.1 c.put_truth.new.slot) c.put_truth.ensures
