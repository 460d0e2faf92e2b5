-- A reader begins with nothing.
use Rattle.trace_reader.proofs.ReaderTakes.{start_stands}
use Rattle.trace_reader.proofs.rows.Rows.new.Goals as goal

pub returns-clause-empty : goal.returns-clause-empty
returns-clause-empty c = start_stands c.args.limits c.args.least c.in_ok-new.field-0 c.in_ok-new.ensures
