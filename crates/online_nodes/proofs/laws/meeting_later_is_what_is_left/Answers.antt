use Rattle.online_nodes.proofs.MeetingLaw.{meeting_later}
use Rattle.online_nodes.proofs.laws.meeting_later_is_what_is_left.Goals as goal

pub returns : goal.returns
returns c = meeting_later
