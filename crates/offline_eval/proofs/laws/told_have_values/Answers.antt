use Rattle.offline_eval.proofs.Forms.{knots_laws}
use Rattle.offline_eval.proofs.ToldHaveValues.{all_have}
use Rattle.offline_eval.proofs.laws.told_have_values.Goals as goal

pub returns : goal.returns
returns g c nodes signals s post e told = all_have (knots_laws g.P.Shape) (assumption g.met.P.Shape) nodes signals s post e told
