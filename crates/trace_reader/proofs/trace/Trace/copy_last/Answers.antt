-- The last row, by its place in both lists.
use Rattle.std.proofs.Common.{◌≡◌, ◌++◌, ◌∷◌, [], ◌-◌, ◌+◌, ◌*◌, ◌∙◌, ap, length, drop, arith}
use Rattle.std.proofs.lemmas.List.{get_or_read, take_rest}
use Rattle.stl_syntax.specs.Trace.{Trace}
use Rattle.trace_reader.specs.Trace.{rows_of}
use Rattle.trace_reader.proofs.TraceLemmas.{length-rows_of, last_at, row_with}
use Rattle.trace_reader.proofs.trace.Trace.copy_last.Goals as goal

pub returns : goal.returns
returns c = λ before r e.
    let a = c.self.inside in
    let w = length a.header.columns in
    let k = c.len-last.result - 1 in
    let rows : rows_of w a.times.items a.values.items ≡ before ++ r ∷ [] = ap (λ (t : Trace). t.rows) c.self.view_is ∙ e in
    let size : length a.times.items ≡ length c.args.self.now.rows = omega (
      arith,
      length-rows_of w a.times.items a.values.items,
      ap (λ (t : Trace). length t.rows) c.self.view_is,
    ) in
    let n : length a.times.items ≡ k + 1 = omega (arith, size, c.len-last.ensures, a.times.ok.0, c.requires.some) in
    let time = get_or_read a.times.items k c.index.result.now (omega (arith, n)) c.index.ensures 0 in
    let s = rw (take_rest, c.deref.ensures.value, c.columns.ensures) at c.set.ensures in
    s ∙ (ap (λ t. row_with t (drop (k * w) a.values.items)) time ∙ last_at w k a.times.items a.values.items before r n c.self.invariant.full rows)
