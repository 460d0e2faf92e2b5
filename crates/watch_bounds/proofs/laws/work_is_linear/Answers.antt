use Rattle.watch_bounds.proofs.WorkOfRun.{work_is_linear as law}
use Rattle.watch_bounds.proofs.laws.work_is_linear.Goals as goal

pub returns : goal.returns
returns c = law
