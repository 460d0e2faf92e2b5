use Rattle.online_nodes.proofs.RunLaw.{within_horizon}
use Rattle.online_nodes.proofs.laws.numbers_stay_within_horizons.Goals as goal

pub returns : goal.returns
returns c nodes header order events run = within_horizon nodes header order events run
