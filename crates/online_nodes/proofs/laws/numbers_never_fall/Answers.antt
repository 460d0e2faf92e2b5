use Rattle.online_nodes.proofs.RisingLaw.{never_fall}
use Rattle.online_nodes.proofs.laws.numbers_never_fall.Goals as goal

pub returns : goal.returns
returns c nodes header order events e run = never_fall nodes header order events e run
