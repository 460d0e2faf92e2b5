use Rattle.workload.proofs.TraceBytes.{bytes_of_trace}
use Rattle.workload.proofs.laws.bytes_are_of_the_trace.Goals as goal

pub returns : goal.returns
returns c = bytes_of_trace
