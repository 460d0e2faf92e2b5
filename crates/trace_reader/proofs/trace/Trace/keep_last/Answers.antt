-- The last row alone.
use Rattle.std.proofs.Common.{◌≡◌, ◌-◌, ◌*◌, length, drop, refl, sym, ap, ◌∙◌, subst, arith, nat_abs, ◌≤◌}
use Rattle.std.proofs.lemmas.List.Elements.{All-drop}
use Rattle.stl_syntax.specs.Trace.{Trace}
use Rattle.trace_reader.specs.Trace.{rows_of}
use Rattle.trace_reader.proofs.TraceLemmas.{trace_with, length-rows_of, rows_of-drop, sofar-drop, drop-full}
use Rattle.trace_reader.proofs.trace.Trace.keep_last.Goals as goal

pub returns-then-rows-lt2 : goal.returns-then-rows-lt2
returns-then-rows-lt2 c =
    let a = c.self.inside in
    let t = c.args.self.now in
    let size : length t.rows ≡ length a.times.items =
    sym (ap (λ (x : Trace). length x.rows) c.self.view_is) ∙ length-rows_of (length a.header.columns) a.times.items a.values.items in
    let none : length t.rows - 1 ≡ 0 = omega (arith, size, c.len-rows.ensures, a.times.ok.0, c.if-rows-lt2.true) in
    subst (λ n. t ≡ record { header = t.header; rows = drop n t.rows }) (sym none) refl

pub invariant_of-self : goal.invariant_of-self
invariant_of-self c =
    let a = c.self.inside in
    let w = length a.header.columns in
    let k = c.len-rows.result - 1 in
    let times = c.let_go_before-2.ensures in
    let values = c.let_go_before.ensures ∙ ap (λ n. drop (k * n) a.values.items) c.columns.ensures in
    record {
      full = rw (times, values) (drop-full w k a.times.items a.values.items c.self.invariant.full);
      small = rw values (All-drop (λ v. nat_abs v ≤ 16777216) (k * w) a.values.items c.self.invariant.small);
      rising = rw (times, values, rows_of-drop w k a.times.items a.values.items)
          (sofar-drop w k (rows_of w a.times.items a.values.items) c.self.invariant.rising);
    }

pub returns : goal.returns
returns c =
    let a = c.self.inside in
    let w = length a.header.columns in
    let k = c.len-rows.result - 1 in
    let times = c.let_go_before-2.ensures in
    let values = c.let_go_before.ensures ∙ ap (λ n. drop (k * n) a.values.items) c.columns.ensures in
    let rows = rows_of w a.times.items a.values.items in
    let size : k ≡ length rows - 1 =
    omega (arith, c.len-rows.ensures, a.times.ok.0, length-rows_of w a.times.items a.values.items) in
    rw (← c.self.view_is)
    (ap (trace_with a.header) (ap (rows_of w c.let_go_before-2.new.items.items) values ∙ ap (λ l. rows_of w l (drop (k * w) a.values.items)) times
    ∙ rows_of-drop w k a.times.items a.values.items ∙ ap (λ n. drop n rows) size))
