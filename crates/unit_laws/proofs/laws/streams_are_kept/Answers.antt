use Rattle.unit_laws.proofs.StreamsKept.{streams_are_kept as law}
use Rattle.unit_laws.proofs.laws.streams_are_kept.Goals as goal

pub returns : goal.returns
returns c = law
