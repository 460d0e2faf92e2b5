use Rattle.std.proofs.Common.{◌≡◌, ◌≤◌, ◌<◌, ◌++◌, ◌∷◌, ℕ, List, [], length, take, append-nil, length-append, sym, ap, ◌∙◌, subst, arith}
use Rattle.std.proofs.lemmas.List.{take_all, take_at}
use Rattle.serde_json.specs.declared.value.Value.{Value}
use Rattle.report.specs.Blocks.{AreVerdictForms}
use Rattle.report.proofs.Blocks.{verdicts_no_float, verdicts_more}
use Rattle.report.proofs.verdict_entry.make_room.Goals as goal

module _ (vs new : List Value) (w : Value) (used : ℕ) (inside : used ≤ length vs) (all : length vs ≤ used) (is : new ≡ vs ++ w ∷ []) where
  before : length vs ≡ used
  before = omega (arith, inside, all)

  kept : take used new ≡ take used vs
  kept = ap (take used) is ∙ (take_at vs (w ∷ []) used before ∙ sym (take_all used vs all))

  room : used < length new
  room = omega (arith, ap (λ l. length l) is, length-append vs (w ∷ []), before)

pub returns-then-used-lt-MOST-clause-forms : goal.returns-then-used-lt-MOST-clause-forms
returns-then-used-lt-MOST-clause-forms c =
    let (w, form, is) = c.in_ok-add_form.ensures.ok in
    subst AreVerdictForms (sym is) (verdicts_more c.args.objects.now.items w c.requires.forms form)

pub returns-then-used-len-clause-begins : goal.returns-then-used-len-clause-begins
returns-then-used-len-clause-begins c = ([], sym (append-nil c.args.text.now))

pub put_before_commas-requires-clause-float : goal.put_before_commas-requires-clause-float
put_before_commas-requires-clause-float c = verdicts_no_float c.args.objects.now.items c.requires.forms
