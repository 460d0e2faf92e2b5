use Rattle.std.proofs.Common.{length, ap, ◌∙◌, ◌≡◌, drop, sym, subst, refl, arith}
use Rattle.growing_sets.specs.Listed.{Listed}
use Rattle.growing_sets.proofs.BlockLemmas.{counted_remove, none_in}
use Rattle.growing_sets.proofs.stretches.Stretches.pop_front.Goals as goal

pub returns-then-self-eq0 : goal.returns-then-self-eq0
returns-then-self-eq0 c =
    let a : c.self.inside.count ≡ length c.args.self.now.items =
    c.self.invariant.all ∙ ap (λ (l : Listed). length l.items) c.self.view_is in
    subst (λ xs. xs ≡ drop 1 xs) (sym (none_in c.args.self.now.items (omega arith))) refl

pub take_front-requires : goal.take_front-requires
take_front-requires c = let a = c.self.invariant.all in omega arith

pub invariant_of-self : goal.invariant_of-self
invariant_of-self c = let a = c.self.invariant.all in counted_remove 0 c.self.invariant (omega arith) c.take_front.ensures

pub returns : goal.returns
returns c = rw (← c.self.view_is) c.take_front.ensures
