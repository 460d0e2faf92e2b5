use Rattle.online_nodes.proofs.StillLaw.{numbers_are_settled}
use Rattle.online_nodes.proofs.laws.numbers_settle.Goals as goal

pub returns : goal.returns
returns c = numbers_are_settled
