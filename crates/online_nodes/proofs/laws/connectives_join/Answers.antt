use Rattle.online_nodes.proofs.LooksLaw.{and_joins, or_joins, implies_joins, not_denies}
use Rattle.online_nodes.proofs.laws.connectives_join.Goals as goal

pub returns : goal.returns
returns c p q tr = (and_joins p q tr, or_joins p q tr, implies_joins p q tr, not_denies p tr)
