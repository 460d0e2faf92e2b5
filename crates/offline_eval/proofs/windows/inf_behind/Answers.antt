use Rattle.std.proofs.lemmas.Result.{IfOk-weaker, IfErr-weaker}
use Rattle.offline_eval.proofs.Forms.{closed_told, pieces_laws}
use Rattle.offline_eval.proofs.Pointwise.{ok_both}
use Rattle.offline_eval.proofs.WindowLemmas.{before_end, in_order}
use Rattle.offline_eval.proofs.OneWindow.{inf_behind_sound, told_historically, fault_historically}
use Rattle.offline_eval.proofs.windows.inf_behind.Goals as goal

pub inf_behind-requires-clause-limited : goal.inf_behind-requires-clause-limited
inf_behind-requires-clause-limited g c = c.requires.fit.limited.limited

pub inf_behind-requires-clause-near : goal.inf_behind-requires-clause-near
inf_behind-requires-clause-near g c = c.requires.fit.near

pub inf_behind-requires-clause-first : goal.inf_behind-requires-clause-first
inf_behind-requires-clause-first g c = c.requires.fit.first

pub inf_behind-requires-clause-last : goal.inf_behind-requires-clause-last
inf_behind-requires-clause-last g c = before_end c.requires.fit.last

pub inf_behind-requires-clause-order : goal.inf_behind-requires-clause-order
inf_behind-requires-clause-order g c = in_order c.args.low c.args.high c.requires.order

pub returns-clause-sound : goal.returns-clause-sound
returns-clause-sound g c = ok_both c.inf_behind.result c.inf_behind.ensures.worth c.inf_behind.ensures.bases
    (λ r worth bases. inf_behind_sound (pieces_laws g.P.Shape) c.args.low c.args.high c.args.low_in c.args.high_in c.args.x.now (assumption g.met.P.Shape)
    c.requires.order c.requires.fit.limited r bases (closed_told g.P.Shape _ c.args.x.now r c.requires.fit.limited worth))

pub returns-clause-told : goal.returns-clause-told
returns-clause-told g c = IfOk-weaker c.inf_behind.result _ _
    (λ r worth. told_historically (pieces_laws g.P.Shape) c.args.low c.args.high c.args.low_in c.args.high_in c.args.x.now r
    (closed_told g.P.Shape _ c.args.x.now r c.requires.fit.limited worth)) c.inf_behind.ensures.worth

pub returns-clause-wide : goal.returns-clause-wide
returns-clause-wide g c = IfErr-weaker c.inf_behind.result _ _
    (λ e cause. fault_historically (pieces_laws g.P.Shape) c.args.low c.args.high c.args.low_in c.args.high_in c.args.x.now e cause) c.inf_behind.ensures.wide
