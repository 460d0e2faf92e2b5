use Rattle.std.proofs.Common.{rules, ◌≡◌, ◌++◌, ◌∷◌, [], subst, sym}
use Rattle.window_extrema.specs.Stairs.{AreStairs}
use Rattle.window_extrema.proofs.StairLemmas.{stairs_more}
use Rattle.window_extrema.proofs.range.RangeMax.push.Goals as goal

pub invariant_of-self-2 : goal.invariant_of-self-2
invariant_of-self-2 g c =
    let more : c.push_back.new.self.items ≡ c.self.inside.items.items ++ c.args.item ∷ [] = search rules in
    let same : c.reserve.new.self.items ≡ c.self.inside.queue.items = search rules in (
      search rules,
      search rules,
      search rules,
      subst (λ xs. AreStairs g.P.Shape.function xs c.self.inside.low c.self.inside.high c.reserve.new.self.items) (sym more)
          (subst (λ xs. AreStairs g.P.Shape.function (c.self.inside.items.items ++ c.args.item ∷ []) c.self.inside.low c.self.inside.high xs) (sym same)
          (stairs_more g.P.Shape.function c.self.inside.items.items (c.args.item ∷ []) c.self.inside.low c.self.inside.high c.self.inside.queue.items
          (search rules) c.self.invariant.3)),
    )
