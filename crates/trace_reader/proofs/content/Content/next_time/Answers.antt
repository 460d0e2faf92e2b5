-- The last row's time is below the next one's.
use Rattle.std.proofs.Common.{ap, arith}
use Rattle.trace_reader.specs.Progress.{Progress}
use Rattle.stl_syntax.specs.Trace.{Row}
use Rattle.trace_reader.proofs.content.Content.next_time.Goals as goal

pub returns-then-self-eq0 : goal.returns-then-self-eq0
returns-then-self-eq0 c = λ some. absurd (omega (arith, some, ap (λ (q : Progress). q.count) c.self.view_is, c.if-self-eq0.true))

pub returns : goal.returns
returns c = λ some.
    let time = ap (λ (q : Progress). q.row.time) c.self.view_is in
    let last = ap (λ (r : Row). r.time) c.last.ensures in
    omega (arith, time, last, c.time.ensures, c.from.ensures)
