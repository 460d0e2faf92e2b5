-- The value of a column in a row.
use Rattle.std.proofs.Common.{◌≡◌, ◌<◌, ◌≤◌, ◌+◌, ◌*◌, ◌∙◌, ap, sym, length, get_or, nat_abs, w32, pos, arith}
use Rattle.std.proofs.lemmas.List.Elements.{All-get_or}
use Rattle.std.proofs.lemmas.List.{get_or_read}
use Rattle.std.proofs.lemmas.Int.{to_z-of_z}
use Rattle.stl_syntax.specs.Trace.{Row, Trace, value}
use Rattle.trace_reader.proofs.DigitLemmas.{value_fits}
use Rattle.trace_reader.proofs.TraceLemmas.{length-rows_of, row_at, value_at, place_within}
use Rattle.trace_reader.proofs.trace.Trace.value.Goals as goal

pub overflow_mul-at : goal.overflow_mul-at
overflow_mul-at c =
    let a = c.self.inside in
    let w = length a.header.columns in
    let rows : length a.times.items ≡ length c.args.self.now.rows =
    sym (length-rows_of w a.times.items a.values.items) ∙ ap (λ (t : Trace). length t.rows) c.self.view_is in
    let columns : w ≡ length c.args.self.now.header.columns = ap (λ (t : Trace). length t.header.columns) c.self.view_is in
    let place : c.args.r * w + c.args.c < length a.values.items =
    place_within w c.args.r c.args.c (length a.values.items) (length a.times.items) (omega (arith, rows, c.requires.row))
    (omega (arith, columns, c.requires.column)) c.self.invariant.full in
    rw c.columns.ensures (omega (arith, place, a.values.ok.0, a.values.small))

pub overflow_add-at : goal.overflow_add-at
overflow_add-at c =
    let a = c.self.inside in
    let w = length a.header.columns in
    let rows : length a.times.items ≡ length c.args.self.now.rows =
    sym (length-rows_of w a.times.items a.values.items) ∙ ap (λ (t : Trace). length t.rows) c.self.view_is in
    let columns : w ≡ length c.args.self.now.header.columns = ap (λ (t : Trace). length t.header.columns) c.self.view_is in
    let place : c.args.r * w + c.args.c < length a.values.items =
    place_within w c.args.r c.args.c (length a.values.items) (length a.times.items) (omega (arith, rows, c.requires.row))
    (omega (arith, columns, c.requires.column)) c.self.invariant.full in
    rw c.columns.ensures (omega (arith, place, a.values.ok.0, a.values.small))

pub index-requires : goal.index-requires
index-requires c =
    let a = c.self.inside in
    let w = length a.header.columns in
    let rows : length a.times.items ≡ length c.args.self.now.rows =
    sym (length-rows_of w a.times.items a.values.items) ∙ ap (λ (t : Trace). length t.rows) c.self.view_is in
    let columns : w ≡ length c.args.self.now.header.columns = ap (λ (t : Trace). length t.header.columns) c.self.view_is in
    let place : c.args.r * w + c.args.c < length a.values.items =
    place_within w c.args.r c.args.c (length a.values.items) (length a.times.items) (omega (arith, rows, c.requires.row))
    (omega (arith, columns, c.requires.column)) c.self.invariant.full in
    rw c.columns.ensures (omega (arith, place, a.values.ok.0))

pub returns-clause-at : goal.returns-clause-at
returns-clause-at c = λ d.
    let a = c.self.inside in
    let w = length a.header.columns in
    let rows : length a.times.items ≡ length c.args.self.now.rows =
    sym (length-rows_of w a.times.items a.values.items) ∙ ap (λ (t : Trace). length t.rows) c.self.view_is in
    let columns : w ≡ length c.args.self.now.header.columns = ap (λ (t : Trace). length t.header.columns) c.self.view_is in
    let place : c.args.r * w + c.args.c < length a.values.items =
    place_within w c.args.r c.args.c (length a.values.items) (length a.times.items) (omega (arith, rows, c.requires.row))
    (omega (arith, columns, c.requires.column)) c.self.invariant.full in
    let at : c.index.result.now ≡ get_or a.values.items (c.args.r * w + c.args.c) (pos 0) =
    get_or_read a.values.items (c.args.r * w + c.args.c) c.index.result.now place (rw c.columns.ensures at c.index.ensures) (pos 0) in
    let small : nat_abs c.index.result.now ≤ 16777216 =
    rw at (All-get_or (λ v. nat_abs v ≤ 16777216) a.values.items (c.args.r * w + c.args.c) (pos 0) place c.self.invariant.small) in
    let within : c.args.r < length a.times.items = omega (arith, rows, c.requires.row) in
    to_z-of_z w32 c.index.result.now (value_fits _ small)
    ∙ (at ∙ (sym (value_at w c.args.r c.args.c a.values.items (omega (arith, columns, c.requires.column)))
    ∙ (sym (ap (λ (x : Row). value x c.args.c) (row_at w c.args.r a.times.items a.values.items d within))
    ∙ ap (λ (t : Trace). value (get_or t.rows c.args.r d) c.args.c) c.self.view_is)))

pub returns-clause-small : goal.returns-clause-small
returns-clause-small c =
    let a = c.self.inside in
    let w = length a.header.columns in
    let rows : length a.times.items ≡ length c.args.self.now.rows =
    sym (length-rows_of w a.times.items a.values.items) ∙ ap (λ (t : Trace). length t.rows) c.self.view_is in
    let columns : w ≡ length c.args.self.now.header.columns = ap (λ (t : Trace). length t.header.columns) c.self.view_is in
    let place : c.args.r * w + c.args.c < length a.values.items =
    place_within w c.args.r c.args.c (length a.values.items) (length a.times.items) (omega (arith, rows, c.requires.row))
    (omega (arith, columns, c.requires.column)) c.self.invariant.full in
    let at : c.index.result.now ≡ get_or a.values.items (c.args.r * w + c.args.c) (pos 0) =
    get_or_read a.values.items (c.args.r * w + c.args.c) c.index.result.now place (rw c.columns.ensures at c.index.ensures) (pos 0) in
    let small : nat_abs c.index.result.now ≤ 16777216 =
    rw at (All-get_or (λ v. nat_abs v ≤ 16777216) a.values.items (c.args.r * w + c.args.c) (pos 0) place c.self.invariant.small) in
    rw (to_z-of_z w32 c.index.result.now (value_fits _ small)) small
