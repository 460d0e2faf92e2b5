-- Rows that the reader takes, where none was refused.
use Rattle.std.proofs.Common.{◌++◌, take}
use Rattle.trace_reader.proofs.ReaderTakes.{going_on}
use Rattle.trace_reader.proofs.RowTakes.{rows_told}
use Rattle.trace_reader.proofs.rows.Rows.take_rows.Goals as goal

pub take_rows-requires-clause-within : goal.take_rows-requires-clause-within
take_rows-requires-clause-within c =
    let so = rw (← c.self.view_is) at c.requires in
    c.self.invariant.within so.stands.open_end.0 so.stands.open_end.1

pub take_rows-requires-clause-so_far : goal.take_rows-requires-clause-so_far
take_rows-requires-clause-so_far c =
    let so = rw (← c.self.view_is) at c.requires in
    record {
      bytes = so.bytes;
      earlier = so.earlier;
      stands = going_on _ so.bytes (so.earlier ++ c.args.trace.now.rows) so.stands;
      header = so.header;
    }

pub returns-clause-rows : goal.returns-clause-rows
returns-clause-rows c =
    let a = c.self.inside in
    rw (← c.self.view_is)
    (rows_told a.limits a.reading c.take_rows.new.self a.refusal a.ended c.args.trace.now c.take_rows.new.trace
    (take c.take_rows.result c.args.piece.now) c.take_rows.ensures.rows)
