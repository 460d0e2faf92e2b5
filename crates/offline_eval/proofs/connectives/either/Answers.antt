use Rattle.std.proofs.lemmas.Result.{IfOk-weaker, IfErr-weaker}
use Rattle.offline_eval.proofs.Forms.{closed_told, pieces_laws, same_starts, same_stops}
use Rattle.offline_eval.proofs.Pointwise.{ok_both, either_sound, told_either, fault_either}
use Rattle.offline_eval.proofs.connectives.either.Goals as goal

pub upper-requires : goal.upper-requires
upper-requires g c = record {
  left = c.requires.left.limited;
  right = c.requires.right.limited;
  begins = same_starts g.P.Shape c.args.x.now c.args.y.now c.requires.left c.requires.right c.requires.begins;
  ends = same_stops g.P.Shape c.args.x.now c.args.y.now c.requires.left c.requires.right c.requires.ends;
}

pub returns-clause-sound : goal.returns-clause-sound
returns-clause-sound g c = ok_both c.upper.result c.upper.ensures.worth c.upper.ensures.shapes
    (λ r worth shapes. either_sound (pieces_laws g.P.Shape) (assumption g.met.P.Shape) c.args.x.now c.args.y.now r c.requires.left c.requires.right
    (closed_told g.P.Shape _ c.args.x.now r c.requires.left worth) shapes)

pub returns-clause-told : goal.returns-clause-told
returns-clause-told g c = IfOk-weaker c.upper.result _ _
    (λ r worth. told_either (pieces_laws g.P.Shape) c.args.x.now c.args.y.now r (closed_told g.P.Shape _ c.args.x.now r c.requires.left worth))
    c.upper.ensures.worth

pub returns-clause-wide : goal.returns-clause-wide
returns-clause-wide g c = IfErr-weaker c.upper.result _ _ (λ e cause. fault_either (pieces_laws g.P.Shape) c.args.x.now c.args.y.now e cause)
    c.upper.ensures.cause
