-- The time of a row.
use Rattle.std.proofs.Common.{◌<◌, ◌∙◌, ap, sym, length, get_or, arith}
use Rattle.std.proofs.lemmas.List.{get_or_read}
use Rattle.stl_syntax.specs.Trace.{Row, Trace}
use Rattle.trace_reader.proofs.TraceLemmas.{length-rows_of, row_at}
use Rattle.trace_reader.proofs.trace.Trace.time.Goals as goal

pub index-requires : goal.index-requires
index-requires c =
    let a = c.self.inside in
    omega (
      arith,
      c.requires,
      a.times.ok.0,
      length-rows_of (length a.header.columns) a.times.items a.values.items,
      ap (λ (t : Trace). length t.rows) c.self.view_is,
    )

pub returns : goal.returns
returns c = λ d.
    let a = c.self.inside in
    let within : c.args.r < length a.times.items =
    omega (arith, c.requires, length-rows_of (length a.header.columns) a.times.items a.values.items, ap (λ (t : Trace). length t.rows) c.self.view_is) in
    get_or_read a.times.items c.args.r c.index.result.now within c.index.ensures 0
    ∙ (sym (ap (λ (x : Row). x.time) (row_at (length a.header.columns) c.args.r a.times.items a.values.items d within))
    ∙ ap (λ (t : Trace). (get_or t.rows c.args.r d).time) c.self.view_is)
