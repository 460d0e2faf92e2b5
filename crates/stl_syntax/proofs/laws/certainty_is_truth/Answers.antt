use Rattle.stl_syntax.proofs.LawProofs.{certainty_is_truth as law}
use Rattle.stl_syntax.proofs.laws.certainty_is_truth.Goals as goal

pub returns : goal.returns
returns c = law
