use Rattle.value_laws.proofs.LawProofs.{order_is_total as law}
use Rattle.value_laws.proofs.laws.order_is_total.Goals as goal

pub returns : goal.returns
returns c = law
