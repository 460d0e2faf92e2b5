use Rattle.std.proofs.Common.{length, ap, ◌≡◌, ◌∙◌, arith}
use Rattle.growing_sets.specs.Listed.{Listed}
use Rattle.growing_sets.proofs.BlockLemmas.{counted_none, counted_insert, insert_behind}
use Rattle.growing_sets.proofs.WindowLemmas.{on_good}
use Rattle.growing_sets.proofs.stretches.Stretches.insert.Goals as goal

pub returns-then-at-self : goal.returns-then-at-self
returns-then-at-self c =
    let a : c.self.inside.count ≡ length c.args.self.now.items =
    c.self.invariant.all ∙ ap (λ (l : Listed). length l.items) c.self.view_is in
    on_good c.push_back.result c.push_back.ensures (λ e. e ∙ insert_behind c.args.self.now.items c.args.at c.args.stretch (omega arith))

pub put_before-requires : goal.put_before-requires
put_before-requires c = let a = c.self.invariant.all in let r = rw (← c.self.view_is) at c.requires in omega arith

pub invariant_of-self : goal.invariant_of-self
invariant_of-self c = counted_none c.clear.ensures.items

pub invariant_of-self-2 : goal.invariant_of-self-2
invariant_of-self-2 c =
    let f = c.self.invariant.few in counted_insert c.args.at c.args.stretch c.self.invariant (omega arith) (rw (← c.self.view_is) at c.requires) c.in-Ok.ensures

pub returns : goal.returns
returns c = rw (← c.self.view_is) c.in-Ok.ensures
