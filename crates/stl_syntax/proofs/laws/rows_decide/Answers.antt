use Rattle.stl_syntax.proofs.DecideLaw.{rows_decide as law}
use Rattle.stl_syntax.proofs.laws.rows_decide.Goals as goal

pub returns : goal.returns
returns c = law
