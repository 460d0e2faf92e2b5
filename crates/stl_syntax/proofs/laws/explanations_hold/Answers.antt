use Rattle.stl_syntax.proofs.LawProofs.{explanations_hold as law}
use Rattle.stl_syntax.proofs.laws.explanations_hold.Goals as goal

pub returns : goal.returns
returns c = law
