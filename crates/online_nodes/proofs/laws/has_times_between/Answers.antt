use Rattle.rational.proofs.PlaceLemmas.{between}
use Rattle.online_nodes.proofs.laws.has_times_between.Goals as goal

pub returns : goal.returns
returns c = between
