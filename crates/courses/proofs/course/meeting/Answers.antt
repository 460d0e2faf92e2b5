use Rattle.std.proofs.Common.{refl, true}
use Rattle.courses.proofs.CourseLemmas.{meets}
use Rattle.courses.proofs.course.meeting.Goals as goal

pub returns-clause-ok : goal.returns-clause-ok
returns-clause-ok g c =
    meets (g.P.Shape.function c.args.p.now) (g.P.Shape.function c.args.q.now) c.args.from.now c.args.next.now (record { time = c.in_ok-time.time; met = true }) refl
    c.in_ok-time.ensures.met
