use Rattle.online_nodes.proofs.StayLaw.{emitted_stays as each_stays}
use Rattle.online_nodes.proofs.laws.emitted_stays.Goals as goal

pub returns : goal.returns
returns c nodes header order events run i within verdicts emitted tr is continues =
    each_stays nodes header order events run i within verdicts emitted tr is continues
