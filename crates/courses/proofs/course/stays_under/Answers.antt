use Rattle.std.proofs.Common.{◌∙◌, inl, inr, sym}
use Rattle.courses.proofs.CourseLemmas.{equal_of, sinks_of}
use Rattle.courses.proofs.course.stays_under.Goals as goal

pub returns-in-Less : goal.returns-in-Less
returns-in-Less g c = λ h. (
  sinks_of c.rises.result (g.P.Shape.function c.args.left.now) c.rises.ensures c.in_default.not-Greater,
  inr (equal_of c.args.start (sym c.is_eq.ensures ∙ h)),
)

pub returns-in_default-order : goal.returns-in_default-order
returns-in_default-order g c = λ h. (
  sinks_of c.rises.result (g.P.Shape.function c.args.left.now) c.rises.ensures c.in_default.not-Greater,
  inl c.in_default-order.not-Less,
)
