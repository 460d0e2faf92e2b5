use Rattle.online_nodes.proofs.UntilLaw.{remembers_of}
use Rattle.online_nodes.proofs.laws.until_remembers_what_it_knows.Goals as goal

pub returns : goal.returns
returns c n p q tr low high at reach left right stop looks knows = remembers_of looks knows
