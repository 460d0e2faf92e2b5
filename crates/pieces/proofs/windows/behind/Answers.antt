use Rattle.std.proofs.Common.{arith, ◌≡◌, ◌≤◌, ℕ, ℤ, pos, ◌^◌, ◌<◌, inr, Option, None, Some, ap, ◌∙◌}
use Rattle.std.specs.Prelude.{neg_ℤ, ◌≤ℤ◌, IfSome}
use Rattle.std.proofs.lemmas.Int.{ints}
use Rattle.pieces.specs.declared.reach.Reach.{Reach}
use Rattle.pieces.specs.Over.{IsReach}
use Rattle.pieces.specs.Windows.{IsSmall}
use Rattle.pieces.proofs.Shifts.{negated, passed}
use Rattle.pieces.proofs.windows.behind.Goals as goal

-- the far end lies no later than the near one
far_end : (a : ℕ) (b : Option ℕ) (low : ℤ) → a < 2 ^ 32 → IfSome b (λ b. a ≤ b) → IsReach b low → low ≤ℤ neg_ℤ (pos a)
far_end a None low small order is = omega (arith, ints, small, is)
far_end a (Some b) low small order is = omega (arith, ints, order, is)

-- so the offsets are small
small_behind : (o : Reach) (low : ℤ) (a : ℕ) → o.low ≡ low → o.high ≡ neg_ℤ (pos a) → neg_ℤ (pos (2 ^ 32)) ≤ℤ low → low ≤ℤ neg_ℤ (pos a) → IsSmall o
small_behind o low a e f from order = record {
  from = omega (arith, ints, e, from);
  to = omega (arith, ints, f);
  order = omega (arith, ints, e, f, order);
  aside = inr (omega (arith, ints, f));
}

pub returns-clause-small : goal.returns-clause-small
returns-clause-small c =
    let n : c.args.a < 2 ^ 32 = c.ranges.a.fits in
    let from = c.from.ensures in
    let far = far_end c.args.a c.args.b c.far_offset.result n c.requires.order c.far_offset.ensures.reach in
    let near = c.far_offset.ensures.small in
    small_behind _ c.far_offset.result c.args.a
    (passed c.far_offset.result near (omega (arith, ints, far)))
    (negated c.from.result (omega (arith, ints, from)) (omega (arith, ints, from, n)) ∙ ap neg_ℤ from)
    near far
