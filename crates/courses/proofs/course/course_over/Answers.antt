use Rattle.std.proofs.Common.{inl, inr, refl, subst}
use Rattle.std.specs.Prelude.{MatchBool}
use Rattle.rational.specs.Onward.{IsBelow}
use Rattle.rational.specs.Extended.{value_at}
use Rattle.frac128.specs.Value.{value}
use Rattle.rational.proofs.ExtendedLemmas.{le_transᵉ}
use Rattle.rational.proofs.ExtendedLemmas.{greatest_of, least_of}
use Rattle.courses.proofs.CourseLemmas.{begins_low, below_on, by_left, only_course, reached_top}
use Rattle.courses.proofs.course.course_over.Goals as goal

pub returns-then-under-clause-ok : goal.returns-then-under-clause-ok
returns-then-under-clause-ok g c =
    let f = g.P.Shape.function in
    let gap = c.args.gap.now in
    let low = least_of (value_at (f gap.before) (value gap.from)) (value_at (f gap.left) (value gap.from)) in
    let top = greatest_of low.0 (value_at (f gap.right) (value gap.from)) in
    let below : IsBelow (f gap.left) (f gap.right) (value gap.from) (value gap.to) =
    subst (λ b. MatchBool b (IsBelow (f gap.left) (f gap.right) (value gap.from) (value gap.to))
    (IsBelow (f gap.right) (f gap.left) (value gap.from) (value gap.to))) c.if-under.true c.requires.under in
    only_course g.P.Shape gap c.only.result gap.left c.only.ensures.side c.only.ensures.first c.only.ensures.second (inl refl)
    (λ t v a b chosen. by_left (value_at (f gap.before) (value gap.from)) (f gap.left) (f gap.right) (value gap.from) t v low.0 top.0 low.1 top.1
    (inr (below_on (f gap.left) (f gap.right) (value gap.from) t (value gap.to) below a b)) chosen)

pub returns-then-stays_under-clause-ok : goal.returns-then-stays_under-clause-ok
returns-then-stays_under-clause-ok g c =
    let f = g.P.Shape.function in
    let gap = c.args.gap.now in
    let low = least_of (value_at (f gap.before) (value gap.from)) (value_at (f gap.left) (value gap.from)) in
    let top = greatest_of low.0 (value_at (f gap.right) (value gap.from)) in
    let stays = c.stays_under.ensures c.if-stays_under.true in
    let here = reached_top c.cmp_at-order.result c.args.start (value_at (f gap.before) (value gap.from)) (value_at (f gap.left) (value gap.from))
    (value_at (f gap.right) (value gap.from)) low.0 top.0 c.cmp_at-order.ensures c.requires.start stays.1 low.1 top.1 in
    only_course g.P.Shape gap c.only-then-stays_under.result gap.left c.only-then-stays_under.ensures.side
    c.only-then-stays_under.ensures.first c.only-then-stays_under.ensures.second (inl refl)
    (λ t v a b chosen. by_left (value_at (f gap.before) (value gap.from)) (f gap.left) (f gap.right)
    (value gap.from) t v low.0 top.0 low.1 top.1
    (inl (le_transᵉ (value_at (f gap.left) t) (value_at (f gap.left) (value gap.from)) top.0 (stays.0 (value gap.from) t a) here)) chosen)

pub above-requires-clause-below : goal.above-requires-clause-below
above-requires-clause-below g c =
    let f = g.P.Shape.function in
    let gap = c.args.gap.now in
    subst (λ b. MatchBool b (IsBelow (f gap.left) (f gap.right) (value gap.from) (value gap.to))
    (IsBelow (f gap.right) (f gap.left) (value gap.from) (value gap.to))) c.if-under.false c.requires.under

pub above-requires-clause-low : goal.above-requires-clause-low
above-requires-clause-low g c = begins_low g.P.Shape c.args.gap.now c.cmp_at-order.result c.lower_of.result.now c.cmp_at-order.ensures c.lower_of.ensures
