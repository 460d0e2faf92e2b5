use Rattle.stl_syntax.proofs.LawProofs.{answered_margins_stay as law}
use Rattle.stl_syntax.proofs.laws.answered_margins_stay.Goals as goal

pub returns : goal.returns
returns c = law
