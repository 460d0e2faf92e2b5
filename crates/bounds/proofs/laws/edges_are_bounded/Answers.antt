use Rattle.bounds.proofs.EdgesFew.{edges_are_bounded as law}
use Rattle.bounds.proofs.laws.edges_are_bounded.Goals as goal

pub returns : goal.returns
returns c = law
