use Rattle.stl_syntax.proofs.LawProofs.{truth_by_values as law}
use Rattle.stl_syntax.proofs.laws.truth_by_values.Goals as goal

pub returns : goal.returns
returns c = law
