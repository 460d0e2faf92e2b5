use Rattle.std.proofs.Common.{[], subst}
use Rattle.stl_syntax.specs.Formula.{Formula}
use Rattle.session_mux.specs.Taking.{IsTaking}
use Rattle.workbench.proofs.many.Many.new.Goals as goal

pub returns-in-Ok-clause-rest : goal.returns-in-Ok-clause-rest
returns-in-Ok-clause-rest c =
    record { taking = subst (λ (f : Formula). IsTaking f c.new.result [] []) c.in-Ok.ensures c.new.ensures.live; empty = c.new.ensures.empty }
