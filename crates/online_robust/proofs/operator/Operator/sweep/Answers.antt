use Rattle.rational.proofs.Lists.{on_ok_anyway, on_err_anyway}
use Rattle.online_robust.specs.Steps.{IsStreamedFault}
use Rattle.online_robust.proofs.RefusalsBeside.{memory_told}
use Rattle.online_robust.proofs.operator.Operator.sweep.Goals as goal

pub returns-in-Not-clause-still : goal.returns-in-Not-clause-still
returns-in-Not-clause-still c = on_ok_anyway c.sweep_not.result c.requires.unset

pub returns-in-Not-clause-wide : goal.returns-in-Not-clause-wide
returns-in-Not-clause-wide c = λ t b. on_err_anyway c.sweep_not.result (memory_told (IsStreamedFault t) c.args.fault.now c.requires.unset tt)
