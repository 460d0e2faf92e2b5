-- A row, by its place in both lists.
use Rattle.std.proofs.Common.{◌≡◌, ◌≤◌, ◌+◌, ◌*◌, ◌∙◌, ap, sym, length, take, drop, get_or, nat_abs, arith}
use Rattle.std.proofs.lemmas.List.{get_or_read, length-drop, length-take-le}
use Rattle.std.proofs.lemmas.List.Elements.{All-take, All-drop}
use Rattle.stl_syntax.specs.Trace.{Trace}
use Rattle.trace_reader.proofs.TraceLemmas.{length-rows_of, row_at, row_with, row_within, sofar-some}
use Rattle.trace_reader.proofs.trace.Trace.copy_row.Goals as goal
use Rattle.trace_reader.proofs.trace.Trace.copy_row.Goals.{After-columns-columns, After-values_at}

-- there are as many times as rows
within : (c : After-columns-columns) → c.args.r + 1 ≤ length c.self.inside.times.items
within c =
    let a = c.self.inside in
    let rows : length a.times.items ≡ length c.args.self.now.rows =
    sym (length-rows_of (length a.header.columns) a.times.items a.values.items) ∙ ap (λ (t : Trace). length t.rows) c.self.view_is in
    omega (arith, rows, c.requires.within)

-- the row's values stand within those of all rows
place : (c : After-columns-columns) → c.args.r * length c.self.inside.header.columns + length c.self.inside.header.columns ≤ length c.self.inside.values.items
place c =
    let a = c.self.inside in
    row_within (length a.header.columns) c.args.r (length a.values.items) (length a.times.items) (within c) c.self.invariant.full

-- its values
part : (c : After-values_at) → c.values_at.result.now ≡ take (length c.self.inside.header.columns)
    (drop (c.args.r * length c.self.inside.header.columns) c.self.inside.values.items)
part c = rw (c.deref.ensures.value, c.columns-columns.ensures) at c.values_at.ensures

pub overflow_mul-from : goal.overflow_mul-from
overflow_mul-from c =
    let a = c.self.inside in
    let p = place (goal.at.overflow_mul-from c).After-columns-columns in
    rw c.columns-columns.ensures (omega (arith, p, a.values.ok.0, a.values.small))

pub index-requires : goal.index-requires
index-requires c =
    let p = within (goal.at.index-requires c).After-columns-columns in
    omega (arith, p, c.self.inside.times.ok.0)

pub values_at-requires : goal.values_at-requires
values_at-requires c =
    let p = place (goal.at.values_at-requires c).After-columns-columns in
    rw (c.deref.ensures.value, c.columns-columns.ensures) p

pub replace-requires-clause-width : goal.replace-requires-clause-width
replace-requires-clause-width c =
    let a = c.self.inside in
    let w = length a.header.columns in
    let p = place (goal.at.replace-requires-clause-width c).After-columns-columns in
    let rest : w ≤ length (drop (c.args.r * w) a.values.items) = omega (arith, p, length-drop (c.args.r * w) a.values.items) in
    ap length (part (goal.at.replace-requires-clause-width c).After-values_at) ∙ length-take-le w (drop (c.args.r * w) a.values.items) rest
    ∙ ap (λ (t : Trace). length t.header.columns) c.self.view_is ∙ sym c.requires.width

pub replace-requires-clause-small : goal.replace-requires-clause-small
replace-requires-clause-small c =
    let a = c.self.inside in
    let w = length a.header.columns in
    rw (part (goal.at.replace-requires-clause-small c).After-values_at)
    (All-take (λ v. nat_abs v ≤ 16777216) w (drop (c.args.r * w) a.values.items)
    (All-drop (λ v. nat_abs v ≤ 16777216) (c.args.r * w) a.values.items c.self.invariant.small))

pub returns-clause-row : goal.returns-clause-row
returns-clause-row c = λ d.
    let a = c.self.inside in
    let w = length a.header.columns in
    let l = within (goal.at.returns-clause-row c).After-columns-columns in
    let time = get_or_read a.times.items c.args.r c.index.result.now (omega (arith, l)) c.index.ensures 0 in
    c.replace.ensures
    ∙ (ap (λ vs. row_with c.index.result.now vs) (part (goal.at.returns-clause-row c).After-values_at)
    ∙ (ap (λ t. row_with t (take w (drop (c.args.r * w) a.values.items))) time
    ∙ (sym (row_at w c.args.r a.times.items a.values.items d (omega (arith, l))) ∙ ap (λ (t : Trace). get_or t.rows c.args.r d) c.self.view_is)))

pub returns-clause-trace : goal.returns-clause-trace
returns-clause-trace c =
    let a = c.self.inside in
    let l = within (goal.at.returns-clause-trace c).After-columns-columns in
    rw (← c.self.view_is) (record {
      rows = sofar-some _ _ c.self.invariant.rising (omega (arith, l, length-rows_of (length a.header.columns) a.times.items a.values.items));
    })
