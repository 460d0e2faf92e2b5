-- There are as many rows as times.
use Rattle.std.proofs.Common.{ap, length, arith}
use Rattle.stl_syntax.specs.Trace.{Trace}
use Rattle.trace_reader.proofs.TraceLemmas.{length-rows_of, sofar-some}
use Rattle.trace_reader.proofs.trace.Trace.rows.Goals as goal

pub returns-clause-count : goal.returns-clause-count
returns-clause-count c =
    let a = c.self.inside in
    omega (
      arith,
      c.len.ensures,
      a.times.ok.0,
      length-rows_of (length a.header.columns) a.times.items a.values.items,
      ap (λ (t : Trace). length t.rows) c.self.view_is,
    )

pub returns-clause-trace : goal.returns-clause-trace
returns-clause-trace c = λ some.
    let a = c.self.inside in
    rw (← c.self.view_is) (record {
      rows = sofar-some _ _ c.self.invariant.rising
          (omega (arith, c.len.ensures, some, a.times.ok.0, length-rows_of (length a.header.columns) a.times.items a.values.items));
    })
