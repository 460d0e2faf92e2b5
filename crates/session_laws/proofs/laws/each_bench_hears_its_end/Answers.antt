use Rattle.session_laws.proofs.HearingLemmas.{hears_its_end}
use Rattle.session_laws.proofs.laws.each_bench_hears_its_end.Goals as goal

pub returns : goal.returns
returns c = hears_its_end
