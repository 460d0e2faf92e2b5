use Rattle.online_nodes.proofs.StretchLaw.{joined_few}
use Rattle.online_nodes.proofs.laws.joined_are_few.Goals as goal

pub returns : goal.returns
returns c = joined_few
