use Rattle.time_sets.proofs.SpanLemmas.{spans_cover as law}
use Rattle.time_sets.proofs.laws.spans_cover.Goals as goal

pub returns : goal.returns
returns c = law
