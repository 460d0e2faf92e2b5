use Rattle.stl_syntax.proofs.DecideLaw.{answered_is_settled as law}
use Rattle.stl_syntax.proofs.laws.answered_is_settled.Goals as goal

pub returns : goal.returns
returns c = law
