use Rattle.std.proofs.lemmas.Result.{IfOk-weaker, IfErr-weaker}
use Rattle.offline_eval.proofs.Forms.{closed_told, pieces_laws}
use Rattle.offline_eval.proofs.Pointwise.{ok_both}
use Rattle.offline_eval.proofs.WindowLemmas.{before_end}
use Rattle.offline_eval.proofs.OneWindow.{inf_ahead_sound, told_always, fault_always}
use Rattle.offline_eval.proofs.windows.inf_ahead.Goals as goal

pub inf_ahead-requires-clause-limited : goal.inf_ahead-requires-clause-limited
inf_ahead-requires-clause-limited g c = c.requires.fit.limited.limited

pub inf_ahead-requires-clause-near : goal.inf_ahead-requires-clause-near
inf_ahead-requires-clause-near g c = c.requires.fit.near

pub inf_ahead-requires-clause-first : goal.inf_ahead-requires-clause-first
inf_ahead-requires-clause-first g c = c.requires.fit.first

pub inf_ahead-requires-clause-last : goal.inf_ahead-requires-clause-last
inf_ahead-requires-clause-last g c = before_end c.requires.fit.last

pub returns-clause-sound : goal.returns-clause-sound
returns-clause-sound g c = ok_both c.inf_ahead.result c.inf_ahead.ensures.worth c.inf_ahead.ensures.bases
    (λ r worth bases. inf_ahead_sound (pieces_laws g.P.Shape) c.args.low c.args.high c.args.low_in c.args.high_in c.args.x.now (assumption g.met.P.Shape)
    c.requires.order c.requires.fit.limited r bases (closed_told g.P.Shape _ c.args.x.now r c.requires.fit.limited worth))

pub returns-clause-told : goal.returns-clause-told
returns-clause-told g c = IfOk-weaker c.inf_ahead.result _ _
    (λ r worth. told_always (pieces_laws g.P.Shape) c.args.low c.args.high c.args.low_in c.args.high_in c.args.x.now r
    (closed_told g.P.Shape _ c.args.x.now r c.requires.fit.limited worth)) c.inf_ahead.ensures.worth

pub returns-clause-wide : goal.returns-clause-wide
returns-clause-wide g c = IfErr-weaker c.inf_ahead.result _ _
    (λ e cause. fault_always (pieces_laws g.P.Shape) c.args.low c.args.high c.args.low_in c.args.high_in c.args.x.now e cause) c.inf_ahead.ensures.wide
