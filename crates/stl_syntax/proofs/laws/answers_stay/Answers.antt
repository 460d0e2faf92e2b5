use Rattle.stl_syntax.proofs.LawProofs.{answers_stay as law}
use Rattle.stl_syntax.proofs.laws.answers_stay.Goals as goal

pub returns : goal.returns
returns c = law
