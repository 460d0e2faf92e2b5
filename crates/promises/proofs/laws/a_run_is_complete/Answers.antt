use Rattle.promises.proofs.CompleteRuns.{completed}
use Rattle.promises.proofs.laws.a_run_is_complete.Goals as goal

pub returns : goal.returns
returns c = completed
