use Rattle.std.proofs.Common.{rules, ◌≡◌, ◌∙◌, subst, sym}
use Rattle.window_extrema.specs.Stairs.{from_place}
use Rattle.window_extrema.proofs.StairLemmas.{from_first}
use Rattle.window_extrema.proofs.queue.drop_earlier.Goals as goal

-- src/queue.rt:43:1
pub returns-clause-kept : goal.returns-clause-kept
returns-clause-kept c =
    let none : c.loop-left.left ≡ 0 = search rules in
    sym (from_first c.loop-left.queue.items)
    ∙ subst (λ n. from_place n c.loop-left.queue.items ≡ from_place c.args.count c.args.queue.now.items) none c.loop-left.invariant.0
