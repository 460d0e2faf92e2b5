use Rattle.unit_laws.proofs.TextsKept.{texts_are_kept as law}
use Rattle.unit_laws.proofs.laws.texts_are_kept.Goals as goal

pub returns : goal.returns
returns c = law
