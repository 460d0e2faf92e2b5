use Rattle.stl_syntax.proofs.LawProofs.{certainty_has_values as law}
use Rattle.stl_syntax.proofs.laws.certainty_has_values.Goals as goal

pub returns : goal.returns
returns c = law
