use Rattle.stl_syntax.proofs.LawProofs.{margins_hold as law}
use Rattle.stl_syntax.proofs.laws.margins_hold.Goals as goal

pub returns : goal.returns
returns c = law
