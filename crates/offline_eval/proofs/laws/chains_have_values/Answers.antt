use Rattle.offline_eval.proofs.Forms.{pieces_laws}
use Rattle.offline_eval.proofs.ToldHaveValues.{all_have}
use Rattle.offline_eval.proofs.laws.chains_have_values.Goals as goal

pub returns : goal.returns
returns g c nodes chains s post e told = all_have (pieces_laws g.P.Shape) (assumption g.met.P.Shape) nodes chains s post e told
