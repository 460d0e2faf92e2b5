use Rattle.bounds.proofs.PartsFew.{rows_cost_few as law}
use Rattle.bounds.proofs.laws.rows_cost_few.Goals as goal

pub returns : goal.returns
returns c = law
