use Rattle.unit_laws.proofs.OneTexts.{check_writes_one_text as law}
use Rattle.unit_laws.proofs.laws.check_writes_one_text.Goals as goal

pub returns : goal.returns
returns c = law
