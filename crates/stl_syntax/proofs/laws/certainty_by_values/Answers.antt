use Rattle.stl_syntax.proofs.LawProofs.{certainty_by_values as law}
use Rattle.stl_syntax.proofs.laws.certainty_by_values.Goals as goal

pub returns : goal.returns
returns c = law
