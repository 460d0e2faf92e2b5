use Rattle.std.proofs.Common.{sym, subst}
use Rattle.stl_syntax.specs.Limits.{own_reach}
use Rattle.offline_eval.specs.Forms.{of_pieces}
use Rattle.offline_eval.specs.Making.{StaysSound, TellsOne, make_one}
use Rattle.offline_eval.proofs.nodes.of_one.Goals as goal

pub returns-in_ok-negated-in-Not-clause-sound : goal.returns-in_ok-negated-in-Not-clause-sound
returns-in_ok-negated-in-Not-clause-sound g c =
    subst (λ n. StaysSound (of_pieces g.P.Shape) (own_reach n) c.args.x.now c.in_ok-negated-in-Not.field-0) (sym c.in-Not.is)
    c.in_ok-negated-in-Not.ensures.sound

pub returns-in_ok-negated-in-Not-clause-told : goal.returns-in_ok-negated-in-Not-clause-told
returns-in_ok-negated-in-Not-clause-told g c =
    subst (λ n. TellsOne (of_pieces g.P.Shape) (make_one n) c.args.x.now c.in_ok-negated-in-Not.field-0) (sym c.in-Not.is)
    c.in_ok-negated-in-Not.ensures.told
