use Rattle.online_nodes.proofs.StretchLaw.{plain_holds}
use Rattle.online_nodes.proofs.laws.plain_edges_hold_segments.Goals as goal

pub returns : goal.returns
returns c = plain_holds
