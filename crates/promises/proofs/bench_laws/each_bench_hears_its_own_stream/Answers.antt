use Rattle.promises.proofs.BenchesHear.{hears_own_stream}
use Rattle.promises.proofs.bench_laws.each_bench_hears_its_own_stream.Goals as goal

pub returns : goal.returns
returns c = hears_own_stream
