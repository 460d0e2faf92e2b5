use Rattle.std.proofs.Common.{◌≡◌, ◌+◌, ◌<◌, ◌≤◌, ◌++◌, ◌∷◌, [], ℕ, List, take, set, length, append_assoc, sym, ap, ◌∙◌, subst, arith}
use Rattle.std.specs.Vec.{with_items}
use Rattle.std.proofs.lemmas.List.{with_items_is}
use Rattle.rational.proofs.Lists.{on_err_anyway}
use Rattle.serde_json.specs.View.{view}
use Rattle.serde_json.specs.declared.value.Value.{Value}
use Rattle.report.specs.Blocks.{before_commas, AreVerdictForms}
use Rattle.report.specs.Forms.{IsVerdictForm}
use Rattle.report.proofs.Blocks.{filled_waits_one, unfilled_waits_one, as_long_one, verdicts_set, verdict_entry, before_join}
use Rattle.report.proofs.verdict_entry.VerdictEntries.put.Goals as goal
use Rattle.report.proofs.verdict_entry.VerdictEntries.put.Goals.{After-deref_mut}

module _ (c : After-deref_mut) where
  abbrev u : ℕ
  u = c.in_ok-used.used

  abbrev seen : List Value
  seen = c.deref_mut.result.now

  inside : u < length seen
  inside = subst (λ l. u < length l) (sym c.deref_mut.ensures.value) c.in_ok-used.ensures.some

  forms : AreVerdictForms seen
  forms = subst AreVerdictForms (sym c.deref_mut.ensures.value) c.make_room.ensures.forms

  -- what was appended and what waits are what there was
  joined : c.make_room.new.text ++ before_commas (take u seen) ≡ c.args.text.now ++ c.args.self.now
  joined =
      ap (λ l. c.make_room.new.text ++ before_commas (take u l)) c.deref_mut.ensures.value
      ∙ (c.in_ok-used.ensures.joined ∙ ap (λ w. c.args.text.now ++ w) c.self.view_is)

  -- what is written back are the objects of which one was filled
  whole : (new : List Value) (w : Value) → new ≡ set seen u w → (with_items c.make_room.new.objects new).items ≡ new
  whole new w is = with_items_is c.make_room.new.objects new (as_long_one seen new w u inside is ∙ c.deref_mut.ensures.len)

  -- and they are objects for verdicts
  filled : (new : List Value) (w : Value) → IsVerdictForm (view w) → new ≡ set seen u w
      → (u + 1 ≤ length (with_items c.make_room.new.objects new).items) × AreVerdictForms (with_items c.make_room.new.objects new).items
  filled new w form is =
      let e = whole new w is in (
        omega (arith, ap (λ l. length l) e, as_long_one seen new w u inside is, inside),
        subst AreVerdictForms (sym (e ∙ is)) (verdicts_set seen u w forms form),
      )

pub fill_at-requires-clause-there : goal.fill_at-requires-clause-there
fill_at-requires-clause-there c = inside (goal.at.fill_at-requires-clause-there c).After-deref_mut

pub fill_at-requires-clause-forms : goal.fill_at-requires-clause-forms
fill_at-requires-clause-forms c = forms (goal.at.fill_at-requires-clause-forms c).After-deref_mut

pub returns-in_err-used-clause-err : goal.returns-in_err-used-clause-err
returns-in_err-used-clause-err c =
    on_err_anyway _
    (ap (λ w. w ++ before_commas (take c.self.inside.used c.make_room.new.objects.items)) c.in_err-used.ensures.err
    ∙ (ap (λ l. c.args.text.now ++ before_commas (take c.self.inside.used l)) c.in_err-used.ensures.same ∙ ap (λ w. c.args.text.now ++ w) c.self.view_is))

pub returns-in_err-fill_at-clause-err : goal.returns-in_err-fill_at-clause-err
returns-in_err-fill_at-clause-err c =
    let f = (goal.at.returns-in_err-fill_at-clause-err c).After-deref_mut in
    let (w, form, is) = c.fill_at.ensures.form in
    on_err_anyway _
    (ap (λ l. c.make_room.new.text ++ before_commas (take (u f) l)) (whole f c.fill_at.new.objects w is)
    ∙ (ap (λ l. c.make_room.new.text ++ before_commas l) (unfilled_waits_one (seen f) c.fill_at.new.objects w (u f) (inside f) is) ∙ joined f))

pub returns-clause-ok : goal.returns-clause-ok
returns-clause-ok c =
    let f = (goal.at.returns-clause-ok c).After-deref_mut in
    let (w, told, is) = c.in_ok-fill_at.ensures.ok in
    let text = c.make_room.new.text in
    let one = w ∷ [] in (
      before_commas one,
      verdict_entry c.args.scale c.args.v.now w told,
      ap (λ l. text ++ before_commas (take (u f + 1) l)) (whole f c.fill_at.new.objects w is)
          ∙ (ap (λ x. text ++ x) (ap before_commas (filled_waits_one (seen f) c.fill_at.new.objects w (u f) (inside f) is)
          ∙ before_join (take (u f) (seen f)) one)
          ∙ (sym (append_assoc text (before_commas (take (u f) (seen f))) (before_commas one)) ∙ ap (λ x. x ++ before_commas one) (joined f))),
    )

pub invariant_of-self : goal.invariant_of-self
invariant_of-self c =
    subst (λ l. (c.self.inside.used ≤ length l) × AreVerdictForms l) (sym c.in_err-used.ensures.same) c.self.invariant

pub invariant_of-self-in_err-fill_at : goal.invariant_of-self-in_err-fill_at
invariant_of-self-in_err-fill_at c =
    let f = (goal.at.invariant_of-self-in_err-fill_at c).After-deref_mut in
    let (w, form, is) = c.fill_at.ensures.form in
    let (long, all) = filled f c.fill_at.new.objects w form is in (omega (arith, long), all)

pub invariant_of-self-2 : goal.invariant_of-self-2
invariant_of-self-2 c =
    let f = (goal.at.invariant_of-self-2 c).After-deref_mut in
    let (w, form, is) = c.fill_at.ensures.form in filled f c.fill_at.new.objects w form is
