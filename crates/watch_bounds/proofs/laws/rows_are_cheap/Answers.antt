use Rattle.watch_bounds.proofs.Cheap.{rows_hold_few, rows_are_little_work}
use Rattle.watch_bounds.proofs.laws.rows_are_cheap.Goals as goal

pub returns : goal.returns
returns c = record { held = rows_hold_few; work = rows_are_little_work }
