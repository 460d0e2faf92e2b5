use Rattle.bounds.proofs.SteadyFormulas.{steady_atoms_keep_truths as law}
use Rattle.bounds.proofs.laws.steady_atoms_keep_truths.Goals as goal

pub returns : goal.returns
returns c = law
