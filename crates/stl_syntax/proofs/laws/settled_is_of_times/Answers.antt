use Rattle.stl_syntax.proofs.SettledTimes.{settled_is_of_times as law}
use Rattle.stl_syntax.proofs.laws.settled_is_of_times.Goals as goal

pub returns : goal.returns
returns c = law
