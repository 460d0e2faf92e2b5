use Rattle.run_laws.proofs.BesideWides.{beside_a_wide}
use Rattle.run_laws.proofs.laws.beside_a_refusal_for_a_denominator.Goals as goal

pub returns : goal.returns
returns c = beside_a_wide
