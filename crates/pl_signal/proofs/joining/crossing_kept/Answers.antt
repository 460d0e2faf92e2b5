use Rattle.frac128.specs.Value.{value}
use Rattle.rational.specs.Affine.{MeetAlone}
use Rattle.rational.proofs.AffineMeetings.{meets}
use Rattle.pl_signal.proofs.Choices.{none_says}
use Rattle.pl_signal.proofs.joining.crossing_kept.Goals as goal

pub unreachable-requires : goal.unreachable-requires
unreachable-requires g c =
    let m = meets (g.P.Shape.function c.args.p.now) (g.P.Shape.function c.args.q.now) (value c.args.from.now)
    (value c.args.to.now) c.requires.order c.requires.turned in
    none_says (λ t. MeetAlone (g.P.Shape.function c.args.p.now) (g.P.Shape.function c.args.q.now) (value c.args.from.now) (value c.args.to.now)
    (value t)) c.in-Ok-None.field-0 c.in-Ok-None.field-0-is c.in-Ok-None.ensures.time m.0 m.1
