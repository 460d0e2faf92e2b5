use Rattle.offline_eval.proofs.Forms.{closed_told, pieces_laws}
use Rattle.offline_eval.proofs.Pointwise.{negated_sound, told_negated}
use Rattle.offline_eval.proofs.connectives.turned_over.Goals as goal

pub negate-requires : goal.negate-requires
negate-requires g c = c.requires.limited

pub returns-clause-sound : goal.returns-clause-sound
returns-clause-sound g c =
    let r = c.negate.new.self in
    negated_sound (pieces_laws g.P.Shape) (assumption g.met.P.Shape) c.args.x r c.requires
    (closed_told g.P.Shape _ c.args.x r c.requires c.negate.ensures.worth) c.negate.ensures.bases

pub returns-clause-told : goal.returns-clause-told
returns-clause-told g c =
    let r = c.negate.new.self in
    told_negated (pieces_laws g.P.Shape) c.args.x r (closed_told g.P.Shape _ c.args.x r c.requires c.negate.ensures.worth)
