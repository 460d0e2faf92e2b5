use Rattle.std.proofs.Common.{inl, inr, sym, ap, subst, Some, ◌∙◌}
use Rattle.std.proofs.lemmas.Option.{same_Some}
use Rattle.implicants.specs.Upward.{AreLost}
use Rattle.implicants.proofs.LostAbove.{put_best_in}
use Rattle.implicants.proofs.Wholes.{set_there, whole_set}
use Rattle.implicants.proofs.upward.put_other.Goals as goal

pub returns-clause-whole : goal.returns-clause-whole
returns-clause-whole c = whole_set c.args.trace.now c.args.done.now.items c.in-Some.i c.in_ok-own.own c.in_ok-own.ensures.whole c.requires.whole

pub returns-clause-stay : goal.returns-clause-stay
returns-clause-stay c i x at = elim (set_there c.args.done.now.items c.in-Some.i c.in_ok-own.own i x at) [
  | inl e ↦ inr (c.in-Some.is ∙ ap (λ j. Some j) (sym e.1))
  | inr h ↦ inl h
]

pub returns-clause-best : goal.returns-clause-best
returns-clause-best c i is l nodes all marks k lost =
    let (v, there, same) = c.runs_in.ensures in
    let lost_own = subst (AreLost nodes c.args.trace.now all marks k c.args.ground.now.signs.items) (sym same) (lost c.in-Some.i v there) in
    put_best_in nodes c.args.trace.now all marks k c.args.ground.now.signs.items c.args.done.now.items c.in-Some.i i c.in_ok-own.own
    (same_Some _ _ (sym c.in-Some.is ∙ is)) l (c.in_ok-own.ensures.best nodes all marks k lost_own)
