use Rattle.std.proofs.Common.{◌≡◌, ◌+◌, ◌<◌, ◌≤◌, ◌++◌, ℕ, List, take, drop, length, append_assoc, refl, sym, ap, ◌∙◌, subst}
use Rattle.std.specs.Vec.{with_items}
use Rattle.std.proofs.lemmas.List.{with_items_is}
use Rattle.rational.proofs.Lists.{on_err_anyway}
use Rattle.serde_json.specs.declared.value.Value.{Value}
use Rattle.value_laws.specs.Kinds.{margin_shape}
use Rattle.pl_signal.specs.Plain.{plain_knot, plain_piece}
use Rattle.report.specs.Blocks.{after_commas, AreStepForms, IsStepForm}
use Rattle.answer_lines.specs.Steps.{step}
use Rattle.report.proofs.Blocks.{step_there, filled_waits, filled_forms, unfilled_waits, unfilled_forms, as_long, step_entry, after_join}
use Rattle.report.proofs.margin_entry.MarginEntries.put_step.Goals as goal
use Rattle.report.proofs.margin_entry.MarginEntries.put_step.Goals.{After-deref_mut}

module _ (c : After-deref_mut) where
  abbrev u : ℕ
  u = c.in_ok-used.used

  abbrev seen : List Value
  seen = c.deref_mut.result.now

  there : IsStepForm (take 2 (drop u seen)) × AreStepForms (drop 2 (drop u seen)) × (u + 2 ≤ length seen)
  there =
      let e = c.deref_mut.ensures.value in
      step_there seen u 2 refl (subst (λ l. u < length l) (sym e) c.in_ok-used.ensures.some)
      (subst (λ l. AreStepForms (drop u l)) (sym e) c.in_ok-used.ensures.spare)

  waiting : AreStepForms (take u seen)
  waiting = subst (λ l. AreStepForms (take u l)) (sym c.deref_mut.ensures.value) c.in_ok-used.ensures.waiting

  -- what was appended and what waits are what there was
  joined : c.make_room.new.text ++ after_commas (take u seen) ≡ c.args.text.now ++ c.args.self.now
  joined =
      ap (λ l. c.make_room.new.text ++ after_commas (take u l)) c.deref_mut.ensures.value
      ∙ (c.in_ok-used.ensures.joined ∙ ap (λ w. c.args.text.now ++ w) c.self.view_is)

  -- what is written back are the objects that were filled
  whole : (new two : List Value) → IsStepForm two → new ≡ take u seen ++ (two ++ drop 2 (drop u seen))
      → (with_items c.make_room.new.objects new).items ≡ new
  whole new two filled is =
      let (form, spare, inside) = there in
      with_items_is c.make_room.new.objects new (as_long seen new two u inside waiting spare filled is ∙ c.deref_mut.ensures.len)

pub fill_step-requires-clause-there : goal.fill_step-requires-clause-there
fill_step-requires-clause-there c = (there (goal.at.fill_step-requires-clause-there c).After-deref_mut).2

pub fill_step-requires-clause-form : goal.fill_step-requires-clause-form
fill_step-requires-clause-form c = (there (goal.at.fill_step-requires-clause-form c).After-deref_mut).0

pub returns-in_err-used-clause-err : goal.returns-in_err-used-clause-err
returns-in_err-used-clause-err c =
    on_err_anyway _
    (ap (λ w. w ++ after_commas (take c.self.inside.used c.make_room.new.objects.items)) c.in_err-used.ensures.err
    ∙ (ap (λ l. c.args.text.now ++ after_commas (take c.self.inside.used l)) c.in_err-used.ensures.same ∙ ap (λ w. c.args.text.now ++ w) c.self.view_is))

pub returns-in_err-fill_step-clause-err : goal.returns-in_err-fill_step-clause-err
returns-in_err-fill_step-clause-err c =
    let f = (goal.at.returns-in_err-fill_step-clause-err c).After-deref_mut in
    let (form, spare, inside) = there f in
    let (two, filled, is) = c.fill_step.ensures.form in
    on_err_anyway _
    (ap (λ l. c.make_room.new.text ++ after_commas (take (u f) l)) (whole f c.fill_step.new.objects two filled is)
    ∙ (ap (λ l. c.make_room.new.text ++ after_commas l) (unfilled_waits (seen f) c.fill_step.new.objects two (u f) inside (waiting f) spare filled is)
    ∙ joined f))

pub returns-clause-ok : goal.returns-clause-ok
returns-clause-ok c =
    let f = (goal.at.returns-clause-ok c).After-deref_mut in
    let (form, spare, inside) = there f in
    let (two, filled, told, is) = c.in_ok-fill_step.ensures.ok in
    let text = c.make_room.new.text in
    let s = step (plain_knot margin_shape c.args.k.now) (plain_piece margin_shape c.args.k.now c.args.n.now) in (
      after_commas two,
      step_entry c.args.scale s two told,
      ap (λ l. text ++ after_commas (take (u f + 2) l)) (whole f c.fill_step.new.objects two filled is)
          ∙ (ap (λ w. text ++ w) (ap after_commas (filled_waits (seen f) c.fill_step.new.objects two (u f) inside (waiting f) spare filled is)
          ∙ after_join (take (u f) (seen f)) two)
          ∙ (sym (append_assoc text (after_commas (take (u f) (seen f))) (after_commas two)) ∙ ap (λ w. w ++ after_commas two) (joined f))),
    )

pub invariant_of-self : goal.invariant_of-self
invariant_of-self c =
    subst (λ l. (c.self.inside.used ≤ length l) × AreStepForms (take c.self.inside.used l) × AreStepForms (drop c.self.inside.used l))
    (sym c.in_err-used.ensures.same) c.self.invariant

pub invariant_of-self-in_err-fill_step : goal.invariant_of-self-in_err-fill_step
invariant_of-self-in_err-fill_step c =
    let f = (goal.at.invariant_of-self-in_err-fill_step c).After-deref_mut in
    let (form, spare, inside) = there f in
    let (two, filled, is) = c.fill_step.ensures.form in
    subst (λ l. (u f ≤ length l) × AreStepForms (take (u f) l) × AreStepForms (drop (u f) l)) (sym (whole f c.fill_step.new.objects two filled is))
    (unfilled_forms (seen f) c.fill_step.new.objects two (u f) inside (waiting f) spare filled is)

pub invariant_of-self-2 : goal.invariant_of-self-2
invariant_of-self-2 c =
    let f = (goal.at.invariant_of-self-2 c).After-deref_mut in
    let (form, spare, inside) = there f in
    let (two, filled, is) = c.fill_step.ensures.form in
    subst (λ l. (u f + 2 ≤ length l) × AreStepForms (take (u f + 2) l) × AreStepForms (drop (u f + 2) l))
    (sym (whole f c.fill_step.new.objects two filled is))
    (filled_forms (seen f) c.fill_step.new.objects two (u f) inside (waiting f) spare filled is)
