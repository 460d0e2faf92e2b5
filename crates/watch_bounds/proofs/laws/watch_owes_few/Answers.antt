use Rattle.watch_bounds.proofs.HeldOnEdges.{watch_owes_few as law}
use Rattle.watch_bounds.proofs.laws.watch_owes_few.Goals as goal

pub returns : goal.returns
returns c = law
