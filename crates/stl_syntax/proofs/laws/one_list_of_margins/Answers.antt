use Rattle.stl_syntax.proofs.LawProofs.{one_list_of_margins as law}
use Rattle.stl_syntax.proofs.laws.one_list_of_margins.Goals as goal

pub returns : goal.returns
returns c = law
