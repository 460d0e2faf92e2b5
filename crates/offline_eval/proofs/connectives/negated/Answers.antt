use Rattle.std.proofs.lemmas.Result.{IfOk-weaker}
use Rattle.offline_eval.proofs.Forms.{closed_told, pieces_laws}
use Rattle.offline_eval.proofs.Pointwise.{ok_both, negated_sound, negated_bounded, told_negated}
use Rattle.offline_eval.proofs.Sound.{limited_along}
use Rattle.offline_eval.proofs.connectives.negated.Goals as goal

pub negated-requires : goal.negated-requires
negated-requires g c = c.requires.limited

pub returns-clause-sound : goal.returns-clause-sound
returns-clause-sound g c = ok_both c.negated.result c.negated.ensures.worth c.negated.ensures.bases
    (λ r worth bases. negated_sound (pieces_laws g.P.Shape) (assumption g.met.P.Shape) c.args.x.now r c.requires
    (closed_told g.P.Shape _ c.args.x.now r c.requires worth) bases)

pub returns-clause-told : goal.returns-clause-told
returns-clause-told g c = IfOk-weaker c.negated.result _ _
    (λ r worth. told_negated (pieces_laws g.P.Shape) c.args.x.now r (closed_told g.P.Shape _ c.args.x.now r c.requires worth)) c.negated.ensures.worth

pub returns-clause-limited : goal.returns-clause-limited
returns-clause-limited g c = IfOk-weaker c.negated.result _ _
    (λ r worth. limited_along (pieces_laws g.P.Shape) _ c.args.x.now r c.requires (closed_told g.P.Shape _ c.args.x.now r c.requires worth)
    (negated_bounded (pieces_laws g.P.Shape) c.args.x.now c.requires)) c.negated.ensures.worth

pub returns-clause-begins : goal.returns-clause-begins
returns-clause-begins g c = IfOk-weaker c.negated.result _ _ (λ r worth. worth.begins.0) c.negated.ensures.worth

pub returns-clause-ends : goal.returns-clause-ends
returns-clause-ends g c = IfOk-weaker c.negated.result _ _ (λ r worth. worth.ends.0) c.negated.ensures.worth
