use Rattle.std.proofs.Common.{arith}
use Rattle.std.proofs.lemmas.Result.{IfOk-weaker}
use Rattle.implicants.proofs.LostAbove.{runs_best_at}
use Rattle.implicants.proofs.Wholes.{whole_view}
use Rattle.implicants.proofs.upward.own_at.Goals as goal

pub few-requires-clause-order : goal.few-requires-clause-order
few-requires-clause-order c =
    let a = c.view_at-view.ensures.first in let b = c.view_at-view.ensures.last in let d = c.last.ensures.later in let e = c.last.ensures.last in
    omega (arith, a, b, d, e)

pub few-requires-clause-late : goal.few-requires-clause-late
few-requires-clause-late c =
    let b = c.view_at-view.ensures.last in let e = c.last.ensures.last in let f = c.last.type_inv in omega (arith, b, e, f)

pub returns-clause-whole : goal.returns-clause-whole
returns-clause-whole c = IfOk-weaker c.few.result _ _
    (λ x is. whole_view c.args.trace.now c.args.runs.now c.view_at-view.result x c.view_at-view.ensures.first c.view_at-view.ensures.last is) c.few.ensures

pub returns-clause-best : goal.returns-clause-best
returns-clause-best c = IfOk-weaker c.few.result _ _
    (λ x is nodes all marks k lost. runs_best_at nodes c.args.trace.now all marks k c.args.ground.now.signs.items c.args.runs.now
    c.view_at-view.result x c.args.k c.view_at-view.ensures.of c.view_at-view.ensures.best lost is) c.few.ensures
