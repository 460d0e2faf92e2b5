use Rattle.trace_reader.proofs.TraceRefusalLaw.{Trace-unique as law}
use Rattle.trace_reader.proofs.laws.at_most_one_trace.Goals as goal

pub returns : goal.returns
returns c = law
