use Rattle.promises.proofs.Due.{fault_due}
use Rattle.promises.proofs.laws.a_fault_is_named.Goals as goal

pub returns : goal.returns
returns c = fault_due
