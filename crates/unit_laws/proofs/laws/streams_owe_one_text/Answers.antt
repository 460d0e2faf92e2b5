use Rattle.unit_laws.proofs.StreamsKept.{streams_owe_one_text as law}
use Rattle.unit_laws.proofs.laws.streams_owe_one_text.Goals as goal

pub returns : goal.returns
returns c = law
