use Rattle.std.proofs.Common.{ap, ◌∙◌, ◌≡◌, ◌-◌, length, arith}
use Rattle.growing_sets.specs.Listed.{Listed}
use Rattle.growing_sets.proofs.BlockLemmas.{last_is, none_in, some_at}
use Rattle.growing_sets.proofs.stretches.Stretches.last.Goals as goal

pub returns-then-self-eq0-clause-none : goal.returns-then-self-eq0-clause-none
returns-then-self-eq0-clause-none c = let a = c.self.invariant.all in rw (← c.self.view_is) (none_in _ (omega arith))

pub returns-in-Some-clause-some : goal.returns-in-Some-clause-some
returns-in-Some-clause-some c =
    let a : c.self.inside.count ≡ length c.args.self.now.items =
    c.self.invariant.all ∙ ap (λ (l : Listed). length l.items) c.self.view_is in
    last_is c.args.self.now.items (c.self.inside.count - 1) c.in-Some.one (omega arith) c.in-Some.ensures.one

pub returns-in-None-clause-none : goal.returns-in-None-clause-none
returns-in-None-clause-none c =
    let a : c.self.inside.count ≡ length c.args.self.now.items =
    c.self.invariant.all ∙ ap (λ (l : Listed). length l.items) c.self.view_is in
    absurd (some_at c.args.self.now.items (c.self.inside.count - 1) (omega arith) c.in-None.ensures.one)
