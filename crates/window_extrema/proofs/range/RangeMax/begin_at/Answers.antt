use Rattle.std.proofs.Common.{rules, ◌≡◌, ◌+◌, ◌-◌, subst, sym}
use Rattle.window_extrema.specs.Stairs.{AreStairs}
use Rattle.window_extrema.proofs.StairLemmas.{later, length_within}
use Rattle.window_extrema.proofs.range.RangeMax.begin_at.Goals as goal

pub invariant_of-self : goal.invariant_of-self
invariant_of-self g c =
    let count = c.args.lo - c.self.inside.low in
    let reached : c.self.inside.low + count ≡ c.args.lo = search rules in
    let stairs : AreStairs g.P.Shape.function c.self.inside.items.items c.args.lo c.self.inside.high c.drop_earlier.new.queue.items =
    subst (λ n. AreStairs g.P.Shape.function c.self.inside.items.items n c.self.inside.high c.drop_earlier.new.queue.items) reached
    (subst (λ xs. AreStairs g.P.Shape.function c.self.inside.items.items (c.self.inside.low + count) c.self.inside.high xs)
    (sym c.drop_earlier.ensures.kept)
    (later g.P.Shape.function c.self.inside.items.items c.self.inside.low count c.self.inside.high c.self.inside.queue.items
    (search rules) c.self.invariant.3)) in (
      length_within g.P.Shape.function c.self.inside.items.items c.args.lo c.self.inside.high c.drop_earlier.new.queue.items stairs,
      search rules,
      search rules,
      stairs,
    )
