use Rattle.session_laws.proofs.EndsSaid.{as_alone_to_its_end}
use Rattle.session_laws.proofs.laws.each_session_is_as_alone_to_its_end.Goals as goal

pub returns : goal.returns
returns c = as_alone_to_its_end
