use Rattle.std.proofs.Common.{rules, ◌+◌, arith, subst, sym}
use Rattle.window_extrema.specs.Stairs.{AreStairs}
use Rattle.window_extrema.proofs.StairLemmas.{spread_is, stairs_to}
use Rattle.window_extrema.proofs.range.RangeMax.take_next.Goals as goal

pub drop_smaller-passed-requires-clause-spread : goal.drop_smaller-passed-requires-clause-spread
drop_smaller-passed-requires-clause-spread g c =
    let over = spread_is g.P.Shape.function c.self.inside.items.items c.self.inside.low c.self.inside.high c.self.inside.queue.items c.self.invariant.3 in
    omega (arith, over)

pub invariant_of-self : goal.invariant_of-self
invariant_of-self g c = (
  search rules,
  search rules,
  search rules,
  subst (λ xs. AreStairs g.P.Shape.function c.self.inside.items.items c.self.inside.low (c.self.inside.high + 1) xs)
      (sym c.push_back_reserved.ensures.items)
      (c.drop_smaller-passed.ensures.stairs c.self.inside.low
      (stairs_to g.P.Shape.function c.self.inside.items.items c.self.inside.low c.self.inside.high c.self.inside.queue.items c.self.invariant.3)),
)
