use Rattle.std.proofs.Common.{sym, subst}
use Rattle.std.proofs.lemmas.Result.{IfOk-weaker, IfErr-weaker}
use Rattle.stl_syntax.specs.Formula.{since}
use Rattle.stl_syntax.specs.Limits.{reach_of_bound}
use Rattle.offline_eval.specs.Making.{FaultOfTwo, StaySound, TellsTwo}
use Rattle.offline_eval.specs.Forms.{of_pieces}
use Rattle.offline_eval.proofs.untils.bounded_since.Goals as goal

pub returns-then-low-eq0-clause-sound : goal.returns-then-low-eq0-clause-sound
returns-then-low-eq0-clause-sound g c = IfOk-weaker c.since_up_to_now.result _ _
    (λ r h. subst (λ n. StaySound (of_pieces g.P.Shape) (reach_of_bound n c.args.high) c.args.x.now c.args.y.now r) (sym c.if-low-eq0.true) h)
    c.since_up_to_now.ensures.sound

pub returns-then-low-eq0-clause-told : goal.returns-then-low-eq0-clause-told
returns-then-low-eq0-clause-told g c = IfOk-weaker c.since_up_to_now.result _ _
    (λ r h. subst (λ n. TellsTwo (of_pieces g.P.Shape) (since n c.args.high) c.args.x.now c.args.y.now r) (sym c.if-low-eq0.true) h)
    c.since_up_to_now.ensures.told

pub returns-then-low-eq0-clause-wide : goal.returns-then-low-eq0-clause-wide
returns-then-low-eq0-clause-wide g c = IfErr-weaker c.since_up_to_now.result _ _
    (λ e h. subst (λ n. FaultOfTwo (of_pieces g.P.Shape) (since n c.args.high) c.args.x.now c.args.y.now e) (sym c.if-low-eq0.true) h)
    c.since_up_to_now.ensures.wide
