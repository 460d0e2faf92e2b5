use Rattle.online_nodes.proofs.LooksLaw.{until_looks, since_looks}
use Rattle.online_nodes.proofs.laws.until_and_since_look.Goals as goal

pub returns : goal.returns
returns c p q tr a b bound = (until_looks p q tr a b, since_looks p q tr a bound)
