use Rattle.std.proofs.Common.{◌≡◌, inl, refl, subst, sym}
use Rattle.std.proofs.lemmas.Result.{on_ok_weaker, on_err_weaker}
use Rattle.rational.specs.Extended.{value_at}
use Rattle.frac128.specs.Value.{value}
use Rattle.frac128.specs.declared.frac.Frac.{Frac}
use Rattle.pl_signal.specs.declared.faults.OpFault.TheVariants as F
use Rattle.pl_signal.specs.Joining.{IsGapFault, IsTakenAt}
use Rattle.pl_signal.proofs.Kept.{none_kept}
use Rattle.courses.proofs.CourseLemmas.{chosen_of_itself}
use Rattle.pieces.specs.Chains.{stop}
use Rattle.pieces.proofs.JoiningLemmas.{joins_alone}
use Rattle.pieces.proofs.since.put_course.Goals as goal

pub returns-then-course-clause-ok : goal.returns-then-course-clause-ok
returns-then-course-clause-ok g c =
    let course = c.args.course.now in
    on_ok_weaker c.put.result
    (joins_alone g.P.Shape course.side c.args.built.now c.put.new.self course.first course.second course.first c.args.until.now (
      inl refl,
      λ t a u. subst (λ x. IsTakenAt g.P.Shape course.side course.first x course.first t) (sym (c.requires.one c.if-course.true))
          (chosen_of_itself course.side (value_at (g.P.Shape.function course.first) t)),
    ))
    c.put.ensures.ok

pub returns-then-course-clause-still : goal.returns-then-course-clause-still
returns-then-course-clause-still g c = on_ok_weaker c.put.result (λ _. c.requires.none) c.put.ensures.ok

pub returns-then-course-clause-wide : goal.returns-then-course-clause-wide
returns-then-course-clause-wide g c =
    let course = c.args.course.now in
    on_err_weaker c.put.result
    (λ _. none_kept (λ pair. (from : Frac) × (value from ≡ (stop c.args.built.now).at)
    × IsGapFault g.P.Shape course.first course.second from c.args.until.now.time (F.Wide pair)) c.args.fault.now c.requires.none) c.put.ensures.err
