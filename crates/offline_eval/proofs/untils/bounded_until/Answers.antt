use Rattle.std.proofs.Common.{sym, subst}
use Rattle.std.proofs.lemmas.Result.{IfOk-weaker, IfErr-weaker}
use Rattle.stl_syntax.specs.Formula.{until}
use Rattle.offline_eval.specs.Making.{FaultOfTwo, TellsTwo}
use Rattle.offline_eval.specs.Forms.{of_pieces}
use Rattle.offline_eval.proofs.untils.bounded_until.Goals as goal

pub returns-then-low-eq0-clause-told : goal.returns-then-low-eq0-clause-told
returns-then-low-eq0-clause-told g c = IfOk-weaker c.until_from_now.result _ _
    (λ r h. subst (λ n. TellsTwo (of_pieces g.P.Shape) (until n c.args.high) c.args.x.now c.args.y.now r)
    (sym c.if-low-eq0.true) h) c.until_from_now.ensures.told

pub returns-then-low-eq0-clause-wide : goal.returns-then-low-eq0-clause-wide
returns-then-low-eq0-clause-wide g c = IfErr-weaker c.until_from_now.result _ _
    (λ e h. subst (λ n. FaultOfTwo (of_pieces g.P.Shape) (until n c.args.high) c.args.x.now c.args.y.now e)
    (sym c.if-low-eq0.true) h) c.until_from_now.ensures.wide
