use Rattle.online_nodes.proofs.EmittedLaw.{taken_within}
use Rattle.online_nodes.proofs.laws.taken_were_given_out.Goals as goal

pub returns : goal.returns
returns c nodes header events n verdicts taken emitted = taken_within nodes header taken verdicts emitted
