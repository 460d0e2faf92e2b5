use Rattle.stl_syntax.proofs.LawProofs.{values_are_of_times as law}
use Rattle.stl_syntax.proofs.laws.values_are_of_times.Goals as goal

pub returns : goal.returns
returns c = law
