use Rattle.std.proofs.Common.{subst}
use Rattle.value_laws.specs.Kinds.{kleene_shape}
use Rattle.implicants.specs.Upward.{AddsShort}
use Rattle.implicants.proofs.runs.own_runs.Goals as goal

pub returns : goal.returns
returns c = subst (λ old. AddsShort kleene_shape c.args.of c.args.best c.args.x.now old c.add_short.new.runs.items) c.new-runs.ensures.items
    c.in_ok-add_short.ensures
