use Rattle.std.proofs.Common.{◌≡◌, ◌∙◌, ℕ, Option, Some, None, sym, subst, length}
use Rattle.std.specs.Prelude.{MatchOption, slice_get}
use Rattle.std.proofs.lemmas.Option.{same_Some}
use Rattle.stl_syntax.proofs.PostOrderLemmas.{child_below}
use Rattle.early_verdict.specs.Making.{HasPartsFor}
use Rattle.early_verdict.specs.declared.sets.Sets.{Sets}
use Rattle.early_verdict.proofs.Childhood.{left_child}
use Rattle.early_verdict.proofs.Places.{item_at}
use Rattle.early_verdict.proofs.making.sets_of.Goals as goal

pub returns-in_default-clause-parts : goal.returns-in_default-clause-parts
returns-in_default-clause-parts c =
    subst (λ (o : Option ℕ). MatchOption o (c.new.result.parts ≡ None)
    (λ p. (l : Sets) → slice_get c.args.below.now p ≡ Some l → HasPartsFor c.args.bounds l c.new.result))
    (sym c.in_default.is ∙ c.left_operand.ensures) c.new.ensures.parts

pub bounds-below-place : goal.bounds-below-place
bounds-below-place c =
    child_below (length c.args.below.now) c.in-Some.place c.args.node.now c.requires
    (left_child c.in-Some.place c.args.node.now (sym c.left_operand.ensures ∙ c.in-Some.is))

pub returns-clause-parts : goal.returns-clause-parts
returns-clause-parts c =
    let place = c.in-Some.place in
    let left = c.index-below-place in
    let child = left_child place c.args.node.now (sym c.left_operand.ensures ∙ c.in-Some.is) in
    let at = item_at c.args.below.now place left.result (child_below (length c.args.below.now) place c.args.node.now c.requires child) left.is in
    subst (λ (o : Option ℕ). MatchOption o (c.with_parts.result.parts ≡ None)
    (λ p. (l : Sets) → slice_get c.args.below.now p ≡ Some l → HasPartsFor c.args.bounds l c.with_parts.result))
    (sym c.in-Some.is ∙ c.left_operand.ensures)
    (λ l is. subst (λ (z : Sets). HasPartsFor c.args.bounds z c.with_parts.result) (same_Some left.result l (sym at ∙ is)) c.with_parts.ensures.parts)
