use Rattle.row_runs.proofs.StandsByRow.{runs_stand_for_rows as law}
use Rattle.row_runs.proofs.laws.runs_stand_for_rows.Goals as goal

pub returns : goal.returns
returns c = law
