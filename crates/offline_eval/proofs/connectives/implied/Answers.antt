use Rattle.std.proofs.Common.{add-zero, subst}
use Rattle.std.proofs.lemmas.Result.{IfOk-weaker, IfErr-weaker}
use Rattle.rational.proofs.Order.{same_trans}
use Rattle.offline_eval.specs.Forms.{of_pieces}
use Rattle.offline_eval.specs.Making.{IsSound}
use Rattle.offline_eval.proofs.Forms.{pieces_laws}
use Rattle.offline_eval.proofs.Pointwise.{told_implied, fault_implied}
use Rattle.offline_eval.proofs.connectives.implied.Goals as goal

pub either-requires : goal.either-requires
either-requires g c = record {
  left = c.in_ok-fails.ensures.limited;
  right = c.requires.right;
  begins = same_trans c.in_ok-fails.ensures.begins c.requires.begins;
  ends = same_trans c.in_ok-fails.ensures.ends c.requires.ends;
}

pub returns-clause-sound : goal.returns-clause-sound
returns-clause-sound g c = IfOk-weaker c.either.result _ _
    (λ r sound from to reach left right. sound from to reach
    (subst (λ n. IsSound (of_pieces g.P.Shape) from to n c.in_ok-fails.fails) (add-zero reach) (c.in_ok-fails.ensures.sound from to reach left)) right)
    c.either.ensures.sound

pub returns-clause-told : goal.returns-clause-told
returns-clause-told g c = IfOk-weaker c.either.result _ _
    (λ r told. told_implied (pieces_laws g.P.Shape) c.args.x.now c.args.y.now c.in_ok-fails.fails r c.in_ok-fails.ensures.told told) c.either.ensures.told

pub returns-clause-wide : goal.returns-clause-wide
returns-clause-wide g c = IfErr-weaker c.either.result _ _
    (λ e wide. fault_implied (of_pieces g.P.Shape) c.args.x.now c.args.y.now c.in_ok-fails.fails e c.in_ok-fails.ensures.told wide) c.either.ensures.wide
