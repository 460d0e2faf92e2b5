use Rattle.std.proofs.Common.{◌≡◌, ◌≤◌, ◌<◌, ◌++◌, ℕ, List, [], length, take, drop, append-nil, length-append, sym, ap, ◌∙◌, subst, arith}
use Rattle.std.proofs.lemmas.List.{take_all, take_at, drop_at}
use Rattle.serde_json.specs.declared.value.Value.{Value}
use Rattle.report.specs.Blocks.{AreStepForms, IsStepForm}
use Rattle.report.proofs.Blocks.{no_float, long}
use Rattle.report.proofs.margin_entry.make_room.Goals as goal

module _ (vs : List Value) (used : ℕ) (inside : used ≤ length vs) (all : length vs ≤ used) where
  -- all objects wait
  wait : take used vs ≡ vs
  wait = take_all used vs all

  -- two more
  module _ (new two : List Value) (is : new ≡ vs ++ two) where
    before : length vs ≡ used
    before = omega (arith, inside, all)

    kept : take used new ≡ take used vs
    kept = ap (take used) is ∙ (take_at vs two used before ∙ sym wait)

    left : drop used new ≡ two
    left = ap (drop used) is ∙ drop_at vs two used before

    room : IsStepForm two → used < length new
    room form = omega (arith, ap (λ l. length l) is, length-append vs two, before, long two form)

pub returns-then-used-len-clause-begins : goal.returns-then-used-len-clause-begins
returns-then-used-len-clause-begins c = ([], sym (append-nil c.args.text.now))

pub put_after_commas-requires-clause-float : goal.put_after_commas-requires-clause-float
put_after_commas-requires-clause-float c =
    let vs = c.args.objects.now.items in
    let all : length vs ≤ c.args.used = omega (arith, c.if-used-len.false, c.len.ensures, c.args.objects.now.ok) in
    no_float vs (subst AreStepForms (wait vs c.args.used c.requires.inside all) c.requires.waiting)
