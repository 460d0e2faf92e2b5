use Rattle.stl_syntax.proofs.LawProofs.{one_value as law}
use Rattle.stl_syntax.proofs.laws.one_value.Goals as goal

pub returns : goal.returns
returns c = law
