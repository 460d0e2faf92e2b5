use Rattle.std.proofs.lemmas.Result.{IfOk-weaker, IfErr-weaker}
use Rattle.offline_eval.proofs.Forms.{closed_told, pieces_laws}
use Rattle.offline_eval.proofs.Pointwise.{ok_both}
use Rattle.offline_eval.proofs.WindowLemmas.{before_end}
use Rattle.offline_eval.proofs.OneWindow.{sup_ahead_sound, told_eventually, fault_eventually}
use Rattle.offline_eval.proofs.windows.sup_ahead.Goals as goal

pub sup_ahead-requires-clause-limited : goal.sup_ahead-requires-clause-limited
sup_ahead-requires-clause-limited g c = c.requires.fit.limited.limited

pub sup_ahead-requires-clause-near : goal.sup_ahead-requires-clause-near
sup_ahead-requires-clause-near g c = c.requires.fit.near

pub sup_ahead-requires-clause-first : goal.sup_ahead-requires-clause-first
sup_ahead-requires-clause-first g c = c.requires.fit.first

pub sup_ahead-requires-clause-last : goal.sup_ahead-requires-clause-last
sup_ahead-requires-clause-last g c = before_end c.requires.fit.last

pub returns-clause-sound : goal.returns-clause-sound
returns-clause-sound g c = ok_both c.sup_ahead.result c.sup_ahead.ensures.worth c.sup_ahead.ensures.bases
    (λ r worth bases. sup_ahead_sound (pieces_laws g.P.Shape) c.args.low c.args.high c.args.low_in c.args.high_in c.args.x.now (assumption g.met.P.Shape)
    c.requires.order c.requires.fit.limited r bases (closed_told g.P.Shape _ c.args.x.now r c.requires.fit.limited worth))

pub returns-clause-told : goal.returns-clause-told
returns-clause-told g c = IfOk-weaker c.sup_ahead.result _ _
    (λ r worth. told_eventually (pieces_laws g.P.Shape) c.args.low c.args.high c.args.low_in c.args.high_in c.args.x.now r
    (closed_told g.P.Shape _ c.args.x.now r c.requires.fit.limited worth)) c.sup_ahead.ensures.worth

pub returns-clause-wide : goal.returns-clause-wide
returns-clause-wide g c = IfErr-weaker c.sup_ahead.result _ _
    (λ e cause. fault_eventually (pieces_laws g.P.Shape) c.args.low c.args.high c.args.low_in c.args.high_in c.args.x.now e cause) c.sup_ahead.ensures.wide
