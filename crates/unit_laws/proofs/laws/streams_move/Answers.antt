use Rattle.unit_laws.proofs.OriginStreams.{streams_move as law}
use Rattle.unit_laws.proofs.laws.streams_move.Goals as goal

pub returns : goal.returns
returns c = law
