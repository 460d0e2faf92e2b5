use Rattle.std.proofs.Common.{inl, inr, ◌∙◌, ◌^◌, sym, subst}
use Rattle.std.proofs.lemmas.Option.{IfSome_then}
use Rattle.rational.specs.Rational.{IsWithin, ◌<ʳ◌}
use Rattle.rational.proofs.Lists.{on_err_anyway}
use Rattle.frac128.specs.Value.{value}
use Rattle.pl_signal.specs.Joining.{IsGapFault}
use Rattle.pl_signal.specs.declared.faults.OpFault.TheVariants as F
use Rattle.pieces.proofs.GoingOver.{by_course, played_level}
use Rattle.pieces.proofs.since.follow.Goals as goal

pub returns-in_err-course-clause-wide : goal.returns-in_err-course-clause-wide
returns-in_err-course-clause-wide g c =
    on_err_anyway c.from_residual.result (IfSome_then c.course_over.new.fault c.in_err-course.ensures.wide (λ pair h. inl h))

pub put_course-requires-clause-later : goal.put_course-requires-clause-later
put_course-requires-clause-later g c =
    inl (subst (λ s. s <ʳ value c.args.until.now.time) c.requires.begins
    (subst (λ t. value c.args.gap.now.from <ʳ value t) c.requires.ends c.requires.gap.later))

pub put_course-requires-clause-from_within : goal.put_course-requires-clause-from_within
put_course-requires-clause-from_within g c = subst (IsWithin (2 ^ 34)) c.requires.begins c.requires.gap.from_within

pub put_course-requires-clause-to_within : goal.put_course-requires-clause-to_within
put_course-requires-clause-to_within g c = subst (λ t. IsWithin (2 ^ 34) (value t)) c.requires.ends c.requires.gap.to_within

pub put_course-requires-clause-first : goal.put_course-requires-clause-first
put_course-requires-clause-first g c =
    played_level g.P.Shape c.args.gap.now c.in_ok-course.course.first c.requires.gap c.in_ok-course.ensures.ok.first

pub put_course-requires-clause-second : goal.put_course-requires-clause-second
put_course-requires-clause-second g c =
    played_level g.P.Shape c.args.gap.now c.in_ok-course.course.second c.requires.gap c.in_ok-course.ensures.ok.second

pub put_course-requires-clause-one : goal.put_course-requires-clause-one
put_course-requires-clause-one g c = c.in_ok-course.ensures.ok.one

pub returns-in_err-put_course-clause-wide : goal.returns-in_err-put_course-clause-wide
returns-in_err-put_course-clause-wide g c =
    let course = c.in_ok-course.course in
    on_err_anyway c.from_residual-in_err-put_course.result (IfSome_then c.put_course.new.fault c.in_err-put_course.ensures.wide
    (λ pair w. inr (
      course.first,
      course.second,
      c.in_ok-course.ensures.ok.first,
      c.in_ok-course.ensures.ok.second,
      w.0,
      w.1 ∙ sym c.requires.begins,
      subst (λ t. IsGapFault g.P.Shape course.first course.second w.0 t (F.Wide pair)) (sym c.requires.ends) w.2,
    )))

pub limit_of-requires-clause-within : goal.limit_of-requires-clause-within
limit_of-requires-clause-within g c = subst (λ t. IsWithin (2 ^ 34) (value t)) c.requires.ends c.requires.gap.to_within

pub limit_of-requires-clause-one : goal.limit_of-requires-clause-one
limit_of-requires-clause-one g c = c.in_ok-course.ensures.ok.one

pub returns-clause-ok : goal.returns-clause-ok
returns-clause-ok g c =
    by_course g.P.Shape c.args.gap.now c.args.until.now c.limit_of.result c.requires.gap c.in_ok-course.ensures.ok c.requires.begins c.requires.ends
    c.in_ok-put_course.ensures.ok c.limit_of.ensures.one c.limit_of.ensures.value
