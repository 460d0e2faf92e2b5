use Rattle.trace_reader.proofs.FirstFaultStays.{first_fault_stays as law}
use Rattle.trace_reader.proofs.laws.first_fault_stays.Goals as goal

pub returns : goal.returns
returns c = law
