use Rattle.session_laws.proofs.EndsSaid.{others_add_nothing_at_the_end}
use Rattle.session_laws.proofs.laws.other_sessions_add_nothing_at_the_end.Goals as goal

pub returns : goal.returns
returns c = others_add_nothing_at_the_end
