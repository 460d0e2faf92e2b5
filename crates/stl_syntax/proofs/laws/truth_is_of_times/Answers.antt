use Rattle.stl_syntax.proofs.LawProofs.{truth_is_of_times as law}
use Rattle.stl_syntax.proofs.laws.truth_is_of_times.Goals as goal

pub returns : goal.returns
returns c = law
