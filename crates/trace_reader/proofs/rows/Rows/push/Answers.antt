-- A row that came can be taken.
use Rattle.std.proofs.Common.{take}
use Rattle.trace_reader.specs.LineReader.{state}
use Rattle.trace_reader.proofs.ReaderSteps.{next_row}
use Rattle.trace_reader.proofs.ReaderTakes.{came_some, going_on}
use Rattle.trace_reader.proofs.rows.Rows.push.Goals as goal

pub returns-in-Ok-clause-next : goal.returns-in-Ok-clause-next
returns-in-Ok-clause-next c = rw (← c.self.view_is) (λ bytes rows s.
    let limits = c.self.inside.limits in
    let e = c.in-Ok.took.event in
    let new = c.take.new.self in
    let t = (c.in-Ok.ensures.ok bytes rows (going_on _ bytes rows s)).taken in
    next_row e new.content.heading rows new.content.row t.rising
    (came_some e (state limits c.self.inside.reading) (state limits new) (take c.in-Ok.took.bytes c.args.piece.now) c.in-Ok.ensures.came))
