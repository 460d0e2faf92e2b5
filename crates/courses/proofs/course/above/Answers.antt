use Rattle.std.proofs.Common.{inl, inr, refl}
use Rattle.rational.specs.Extended.{value_at}
use Rattle.frac128.specs.Value.{value}
use Rattle.rational.proofs.ExtendedLemmas.{le_of_ltᵉ}
use Rattle.courses.proofs.CourseLemmas.{begins_top, not_above, sinks_of, climbs_of, below_on, by_right, only_course}
use Rattle.courses.proofs.course.above.Goals as goal

pub sunk-requires-clause-start : goal.sunk-requires-clause-start
sunk-requires-clause-start g c =
    begins_top g.P.Shape c.args.gap.now c.cmp_at-order.result c.args.low.now c.higher_of-top.result.now c.requires.low c.cmp_at-order.ensures
    c.higher_of-top.ensures

pub sunk-requires-clause-sinks : goal.sunk-requires-clause-sinks
sunk-requires-clause-sinks g c =
    sinks_of c.rises.result (g.P.Shape.function c.args.gap.now.right) c.rises.ensures (λ e. let h = c.in-Less.is in absurd (cc))

pub raised-requires-clause-start : goal.raised-requires-clause-start
raised-requires-clause-start g c =
    begins_top g.P.Shape c.args.gap.now c.cmp_at-order.result c.args.low.now c.higher_of-top.result.now c.requires.low c.cmp_at-order.ensures
    c.higher_of-top.ensures

pub raised-requires-clause-climbs : goal.raised-requires-clause-climbs
raised-requires-clause-climbs g c =
    climbs_of c.rises.result (g.P.Shape.function c.args.gap.now.right) c.rises.ensures c.in_default.not-Less

pub raised-requires-clause-higher : goal.raised-requires-clause-higher
raised-requires-clause-higher g c =
    le_of_ltᵉ (value_at (g.P.Shape.function c.args.gap.now.right) (value c.args.gap.now.from))
    (value_at (g.P.Shape.function c.args.low.now) (value c.args.gap.now.from)) c.in-Greater.ensures

pub returns-clause-ok : goal.returns-clause-ok
returns-clause-ok g c =
    let f = g.P.Shape.function in
    let gap = c.args.gap.now in
    let start = begins_top g.P.Shape gap c.cmp_at-order.result c.args.low.now c.higher_of-top.result.now c.requires.low c.cmp_at-order.ensures
    c.higher_of-top.ensures in
    let low = value_at (f c.args.low.now) (value gap.from) in
    let top = value_at (f c.higher_of-top.result.now) (value gap.from) in
    let right = f gap.right in
    only_course g.P.Shape gap c.only.result gap.right c.only.ensures.side c.only.ensures.first c.only.ensures.second (inr (inl refl))
    (λ t v a b chosen. by_right (value_at (f gap.before) (value gap.from)) (f gap.left) (f gap.right)
    (value gap.from) t v low top start.is_low start.is_top
    (climbs_of c.rises.result right c.rises.ensures c.in_default.not-Less (value gap.from) t a)
    (below_on right (f gap.left) (value gap.from) t (value gap.to) c.requires.below a b)
    (not_above c.cmp_at-order.result low (value_at right (value gap.from)) c.cmp_at-order.ensures c.in_default-order.not-Greater) chosen)
