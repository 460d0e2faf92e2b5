use Rattle.std.proofs.lemmas.Result.{IfOk-weaker, IfErr-weaker}
use Rattle.offline_eval.proofs.Forms.{closed_told, pieces_laws}
use Rattle.offline_eval.proofs.Pointwise.{ok_both}
use Rattle.offline_eval.proofs.WindowLemmas.{before_end, in_order}
use Rattle.offline_eval.proofs.OneWindow.{sup_behind_sound, told_once, fault_once}
use Rattle.offline_eval.proofs.windows.sup_behind.Goals as goal

pub sup_behind-requires-clause-limited : goal.sup_behind-requires-clause-limited
sup_behind-requires-clause-limited g c = c.requires.fit.limited.limited

pub sup_behind-requires-clause-near : goal.sup_behind-requires-clause-near
sup_behind-requires-clause-near g c = c.requires.fit.near

pub sup_behind-requires-clause-first : goal.sup_behind-requires-clause-first
sup_behind-requires-clause-first g c = c.requires.fit.first

pub sup_behind-requires-clause-last : goal.sup_behind-requires-clause-last
sup_behind-requires-clause-last g c = before_end c.requires.fit.last

pub sup_behind-requires-clause-order : goal.sup_behind-requires-clause-order
sup_behind-requires-clause-order g c = in_order c.args.low c.args.high c.requires.order

pub returns-clause-sound : goal.returns-clause-sound
returns-clause-sound g c = ok_both c.sup_behind.result c.sup_behind.ensures.worth c.sup_behind.ensures.bases
    (λ r worth bases. sup_behind_sound (pieces_laws g.P.Shape) c.args.low c.args.high c.args.low_in c.args.high_in c.args.x.now (assumption g.met.P.Shape)
    c.requires.order c.requires.fit.limited r bases (closed_told g.P.Shape _ c.args.x.now r c.requires.fit.limited worth))

pub returns-clause-told : goal.returns-clause-told
returns-clause-told g c = IfOk-weaker c.sup_behind.result _ _
    (λ r worth. told_once (pieces_laws g.P.Shape) c.args.low c.args.high c.args.low_in c.args.high_in c.args.x.now r
    (closed_told g.P.Shape _ c.args.x.now r c.requires.fit.limited worth)) c.sup_behind.ensures.worth

pub returns-clause-wide : goal.returns-clause-wide
returns-clause-wide g c = IfErr-weaker c.sup_behind.result _ _
    (λ e cause. fault_once (pieces_laws g.P.Shape) c.args.low c.args.high c.args.low_in c.args.high_in c.args.x.now e cause) c.sup_behind.ensures.wide
