use Rattle.std.proofs.Common.{rules, ◌≡◌, ◌+◌, ◌-◌, arith, length, subst, sym, ap, ◌∙◌}
use Rattle.std.proofs.lemmas.List.{length-drop}
use Rattle.window_extrema.specs.Stairs.{AreStairs}
use Rattle.window_extrema.proofs.StairLemmas.{stairs_nearer}
use Rattle.window_extrema.proofs.range.RangeMax.leave_before.Goals.{then-self-place, else-self-place}
use Rattle.window_extrema.proofs.range.RangeMax.leave_before.Goals as goal

pub invariant_of-self : goal.invariant_of-self
invariant_of-self g c =
    let place = c.args.place in
    let many : length c.let_go.new.items.items ≡ length c.self-2.inside.items.items - place =
    ap length c.let_go.ensures ∙ length-drop place c.self-2.inside.items.items in
    let reached = c.self-2.invariant.1 in
    let room = c.self-2.invariant.2 in
    let low : place + (c.self-2.inside.low - place) ≡ c.self-2.inside.low = elim c.if-self-place.branch [
      | then-self-place w ↦ search rules
      | else-self-place w ↦ search rules
    ] in
    let high : place + (c.self-2.inside.high - place) ≡ c.self-2.inside.high = elim c.if-self-place.branch [
      | then-self-place w ↦ search rules
      | else-self-place w ↦ search rules
    ] in (
      search rules,
      omega (arith, many, reached),
      omega (arith, many, room, reached, high),
      subst (λ xs. AreStairs g.P.Shape.function xs (c.self-2.inside.low - place) (c.self-2.inside.high - place) c.self-2.inside.queue.items)
          (sym c.let_go.ensures)
          (stairs_nearer g.P.Shape.function c.self-2.inside.items.items place (c.self-2.inside.low - place) (c.self-2.inside.high - place)
          c.self-2.inside.queue.items
          (subst (λ n. AreStairs g.P.Shape.function c.self-2.inside.items.items n (place + (c.self-2.inside.high - place)) c.self-2.inside.queue.items)
          (sym low)
          (subst (λ n. AreStairs g.P.Shape.function c.self-2.inside.items.items c.self-2.inside.low n c.self-2.inside.queue.items) (sym high)
          c.self-2.invariant.3))),
    )
