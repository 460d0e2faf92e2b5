use Rattle.online_nodes.proofs.FrontsLaw.{fronts_are_times as law}
use Rattle.online_nodes.proofs.laws.fronts_are_times.Goals as goal

pub returns : goal.returns
returns c = law
