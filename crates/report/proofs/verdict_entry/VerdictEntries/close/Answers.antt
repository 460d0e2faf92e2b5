use Rattle.std.proofs.Common.{◌≡◌, ◌+◌, ◌<◌, ◌++◌, [], ℕ, List, take, set, length, append-nil, append_assoc, refl, sym, ap, ◌∙◌, subst, codes, false}
use Rattle.std.specs.Vec.{with_items}
use Rattle.std.proofs.lemmas.List.{with_items_is}
use Rattle.std.proofs.lemmas.Result.{on_ok_weaker, on_err_weaker}
use Rattle.rational.proofs.Lists.{on_err_anyway}
use Rattle.serde_json.specs.View.{view, items_view}
use Rattle.serde_json.specs.Written.{compact_text, items_text, items_have_float}
use Rattle.serde_json.specs.declared.value.Value.{Value}
use Rattle.report.specs.Blocks.{before_commas, AreVerdictForms}
use Rattle.report.proofs.Blocks.{filled_waits_one, as_long_one, verdicts_set, verdicts_front, verdicts_no_float, closed}
use Rattle.report.proofs.verdict_entry.VerdictEntries.close.Goals as goal
use Rattle.report.proofs.verdict_entry.VerdictEntries.close.Goals.{After-deref_mut}

module _ (c : After-deref_mut) where
  abbrev u : ℕ
  u = c.in_ok-used.used

  abbrev seen : List Value
  seen = c.deref_mut.result.now

  inside : u < length seen
  inside = subst (λ l. u < length l) (sym c.deref_mut.ensures.value) c.in_ok-used.ensures.some

  forms : AreVerdictForms seen
  forms = subst AreVerdictForms (sym c.deref_mut.ensures.value) c.make_room.ensures.forms

  -- what was appended and what waits are what there was
  joined : c.make_room.new.text ++ before_commas (take u seen) ≡ c.args.text.now ++ c.args.self
  joined =
      ap (λ l. c.make_room.new.text ++ before_commas (take u l)) c.deref_mut.ensures.value
      ∙ (c.in_ok-used.ensures.joined ∙ ap (λ w. c.args.text.now ++ w) c.self.view_is)

  -- what is written back are the objects of which one was filled
  whole : (new : List Value) (w : Value) → new ≡ set seen u w → (with_items c.make_room.new.objects new).items ≡ new
  whole new w is = with_items_is c.make_room.new.objects new (as_long_one seen new w u inside is ∙ c.deref_mut.ensures.len)

pub fill_at-requires-clause-there : goal.fill_at-requires-clause-there
fill_at-requires-clause-there c = inside (goal.at.fill_at-requires-clause-there c).After-deref_mut

pub fill_at-requires-clause-forms : goal.fill_at-requires-clause-forms
fill_at-requires-clause-forms c = forms (goal.at.fill_at-requires-clause-forms c).After-deref_mut

pub put_closed-requires : goal.put_closed-requires
put_closed-requires c =
    let f = (goal.at.put_closed-requires c).After-deref_mut in
    let (w, form, is) = c.fill_at.ensures.form in
    let all : AreVerdictForms c.fill_at.new.objects = subst AreVerdictForms (sym is) (verdicts_set (seen f) (u f) w (forms f) form) in
    ap (λ l. items_have_float (items_view l)) (c.truncate.ensures.items ∙ ap (take (u f + 1)) (whole f c.fill_at.new.objects w is))
    ∙ verdicts_no_float (take (u f + 1) c.fill_at.new.objects) (verdicts_front c.fill_at.new.objects (u f + 1) all)

pub returns-in_err-used-clause-err : goal.returns-in_err-used-clause-err
returns-in_err-used-clause-err c =
    let new = c.make_room.new.text in
    let old = c.args.text.now in
    let cut : (front : List ℕ) × (more : List ℕ) × (new ≡ old ++ front) × (new ++ more ≡ old ++ c.args.self) =
    ([], c.args.self, c.in_err-used.ensures.err ∙ sym (append-nil old), ap (λ w. w ++ c.args.self) c.in_err-used.ensures.err) in
    on_err_anyway _ cut

pub returns-in_err-fill_at-clause-err : goal.returns-in_err-fill_at-clause-err
returns-in_err-fill_at-clause-err c =
    let f = (goal.at.returns-in_err-fill_at-clause-err c).After-deref_mut in
    let (front, e) = c.make_room.ensures.begins in
    let new = c.make_room.new.text in
    let old = c.args.text.now in
    let cut : (first : List ℕ) × (more : List ℕ) × (new ≡ old ++ first) × (new ++ more ≡ old ++ c.args.self) =
    (front, before_commas (take (u f) (seen f)), e, joined f) in
    on_err_anyway _ cut

pub returns-clause-ok : goal.returns-clause-ok
returns-clause-ok c =
    let f = (goal.at.returns-clause-ok c).After-deref_mut in
    let (w, told, is) = c.in_ok-fill_at.ensures.ok in
    let text = c.make_room.new.text in
    let front = take (u f) (seen f) in
    let end = compact_text (view w) ++ codes "]" in
    let items = c.truncate.ensures.items ∙ ap (take (u f + 1)) (whole f c.fill_at.new.objects w is)
    ∙ filled_waits_one (seen f) c.fill_at.new.objects w (u f) (inside f) is in
    on_ok_weaker c.put_closed.result (λ e. (
      end,
      (view w, told, refl),
      e ∙ ap (λ x. text ++ x) (ap (λ l. items_text false (items_view l)) items ∙ closed front w)
          ∙ (sym (append_assoc text (before_commas front) end) ∙ ap (λ x. x ++ end) (joined f)),
    )) c.put_closed.ensures.ok

pub returns-clause-err : goal.returns-clause-err
returns-clause-err c =
    let f = (goal.at.returns-clause-err c).After-deref_mut in
    let more = before_commas (take (u f) (seen f)) in
    let (front, g) = c.make_room.ensures.begins in
    on_err_weaker c.put_closed.result (λ e. (front, more, e ∙ g, ap (λ x. x ++ more) e ∙ joined f)) c.put_closed.ensures.err
