use Rattle.bounds.proofs.SteadyFormulas.{steady_atoms_answer_once as law}
use Rattle.bounds.proofs.laws.steady_atoms_answer_once.Goals as goal

pub returns : goal.returns
returns c = law
