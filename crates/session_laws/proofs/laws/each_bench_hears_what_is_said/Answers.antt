use Rattle.session_laws.proofs.HearingLemmas.{hears_what_is_said}
use Rattle.session_laws.proofs.laws.each_bench_hears_what_is_said.Goals as goal

pub returns : goal.returns
returns c = hears_what_is_said
