use Rattle.stl_syntax.proofs.LawProofs.{decisions_stay as law}
use Rattle.stl_syntax.proofs.laws.decisions_stay.Goals as goal

pub returns : goal.returns
returns c = law
