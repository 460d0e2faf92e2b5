use Rattle.online_nodes.specs.Network.{initial}
use Rattle.online_nodes.proofs.EmittedLaw.{emitted_tiles, emitted_alike}
use Rattle.online_nodes.proofs.laws.emitted_is_whole.Goals as goal

pub returns : goal.returns
returns c nodes header order events run i within verdicts others emitted = (
  emitted_tiles nodes header order events run i within verdicts emitted,
  (λ given. emitted_alike nodes header i initial events verdicts others emitted given),
)
