use Rattle.run_laws.proofs.CrowdLaws.{hears_its_own_run, others_change_nothing, hears_a_front}
use Rattle.run_laws.proofs.laws.a_bench_hears_its_own_run.Goals as goal

pub returns : goal.returns
returns c = record { whole = hears_its_own_run; others = others_change_nothing; front = hears_a_front }
