use Rattle.std.proofs.Common.{◌∙◌, sym, subst}
use Rattle.online_robust.proofs.FirstOperators.{IsReach, not_reach, reach_of, unstreamed_by}
use Rattle.online_robust.proofs.streamed.is_streamed.Goals as goal

pub returns-in-Reach : goal.returns-in-Reach
returns-in-Reach c = unstreamed_by c.args.node.now (subst IsReach (sym c.in-Reach.is ∙ c.view.ensures.view) tt)

pub returns-in_default : goal.returns-in_default
returns-in_default c = λ unstreamed.
    not_reach c.view.result c.in_default.not-Reach (subst IsReach (sym c.view.ensures.view) (reach_of c.args.node.now unstreamed))
