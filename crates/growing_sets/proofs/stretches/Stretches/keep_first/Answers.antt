use Rattle.std.proofs.Common.{length, ap, ◌∙◌, ◌≡◌, take, sym, subst, refl, arith}
use Rattle.growing_sets.specs.Listed.{Listed}
use Rattle.growing_sets.proofs.BlockLemmas.{counted_one, none_in}
use Rattle.growing_sets.proofs.stretches.Stretches.keep_first.Goals as goal

pub returns-then-self-eq0 : goal.returns-then-self-eq0
returns-then-self-eq0 c =
    let a : c.self.inside.count ≡ length c.args.self.now.items =
    c.self.invariant.all ∙ ap (λ (l : Listed). length l.items) c.self.view_is in
    subst (λ xs. xs ≡ take 1 xs) (sym (none_in c.args.self.now.items (omega arith))) refl

pub keep_one-requires : goal.keep_one-requires
keep_one-requires c = let a = c.self.invariant.all in omega arith

pub invariant_of-self : goal.invariant_of-self
invariant_of-self c = let a = c.self.invariant.all in counted_one c.self.inside.blocks.items (omega arith) c.keep_one.ensures

pub returns : goal.returns
returns c = rw (← c.self.view_is) c.keep_one.ensures
