use Rattle.online_nodes.proofs.HeldLaw.{meeting_is_suffix}
use Rattle.online_nodes.proofs.laws.meeting_is_what_is_left.Goals as goal

pub returns : goal.returns
returns c = meeting_is_suffix
