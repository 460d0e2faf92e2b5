use Rattle.session_laws.proofs.SessionsSaid.{as_alone}
use Rattle.session_laws.proofs.laws.each_session_is_as_alone.Goals as goal

pub returns : goal.returns
returns c = as_alone
