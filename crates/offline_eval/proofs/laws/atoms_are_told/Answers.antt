use Rattle.offline_eval.proofs.PlainAtoms.{plain_told}
use Rattle.offline_eval.proofs.laws.atoms_are_told.Goals as goal

pub returns : goal.returns
returns g c = plain_told g.P.Shape
