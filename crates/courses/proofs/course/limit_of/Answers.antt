use Rattle.std.proofs.Common.{subst, sym}
use Rattle.rational.specs.Extended.{value_at}
use Rattle.frac128.specs.Value.{value}
use Rattle.pl_signal.specs.Joining.{IsChosen}
use Rattle.courses.proofs.CourseLemmas.{chosen_of_itself}
use Rattle.courses.proofs.course.limit_of.Goals as goal

pub returns-then-course-clause-value : goal.returns-then-course-clause-value
returns-then-course-clause-value g c =
    let course = c.args.course.now in
    let here = value_at (g.P.Shape.function course.first) (value c.args.at.now) in
    subst (λ x. IsChosen course.side here (value_at (g.P.Shape.function x) (value c.args.at.now)) here) (sym (c.requires.one c.if-course.true))
    (chosen_of_itself course.side here)
