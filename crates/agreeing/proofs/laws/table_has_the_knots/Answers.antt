use Rattle.agreeing.proofs.OneContent.{table_has_the_knots as law}
use Rattle.agreeing.proofs.laws.table_has_the_knots.Goals as goal

pub returns : goal.returns
returns c = law
