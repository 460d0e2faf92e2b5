use Rattle.session_laws.proofs.SessionsSaid.{others_add_nothing}
use Rattle.session_laws.proofs.laws.other_sessions_add_nothing.Goals as goal

pub returns : goal.returns
returns c = others_add_nothing
