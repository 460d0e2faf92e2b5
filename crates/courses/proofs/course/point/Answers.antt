use Rattle.rational.specs.Extended.{value_at}
use Rattle.frac128.specs.Value.{value}
use Rattle.courses.proofs.CourseLemmas.{point_where_met}
use Rattle.courses.proofs.course.point.Goals as goal

pub returns-then-turn-clause-value : goal.returns-then-turn-clause-value
returns-then-turn-clause-value g c =
    let f = g.P.Shape.function in
    let course = c.args.course.now in
    let t = value c.args.turn.now.time in
    point_where_met course.side (value_at (f course.first) t) (value_at (f course.second) t) (value_at (f c.args.left.now) t)
    (value_at (f c.args.right.now) t) (c.requires.meets c.if-turn.true)
