use Rattle.agreeing.proofs.StartLaw.{early_is_no_later as law}
use Rattle.agreeing.proofs.laws.early_is_no_later.Goals as goal

pub returns : goal.returns
returns c = law
