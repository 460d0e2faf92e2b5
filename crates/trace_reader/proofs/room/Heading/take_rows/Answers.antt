-- The rows that go on for long, and those behind them.
use Rattle.std.proofs.Common.{◌≤◌, ◌+◌, ◌∙◌, ℕ, List, ap, arith, length, drop, length-drop}
use Rattle.std.proofs.lemmas.List.{take_rest}
use Rattle.stl_syntax.specs.Trace.{Trace}
use Rattle.trace_reader.proofs.BlockTakes.{blocks_joined}
use Rattle.trace_reader.proofs.room.Heading.take_rows.Goals as goal

pub take_while-near-requires-clause-width : goal.take_while-near-requires-clause-width
take_while-near-requires-clause-width c =
    ap (λ (x : Trace). length x.header.columns) c.take_while-far.ensures.rows.added ∙ c.requires.width

pub take_while-near-requires-clause-later : goal.take_while-near-requires-clause-later
take_while-near-requires-clause-later c = c.take_while-far.ensures.later

-- the rows behind lie within what is left of the piece
within : (piece : List ℕ) (at n : ℕ) → at ≤ length piece → n ≤ length (drop at piece) → at + n ≤ length piece
within piece at n h k = omega (arith, h, k, length-drop at piece)

pub overflow_add-result-2 : goal.overflow_add-result-2
overflow_add-result-2 c =
    let size = rw take_rest at c.take_while-near.ensures.size in
    let n = within c.args.piece.now c.take_while-far.result.bytes c.take_while-near.result.bytes c.take_while-far.ensures.size size in
    omega (arith, n)

pub returns-clause-size : goal.returns-clause-size
returns-clause-size c =
    let size = rw take_rest at c.take_while-near.ensures.size in
    within c.args.piece.now c.take_while-far.result.bytes c.take_while-near.result.bytes c.take_while-far.ensures.size size

pub returns-clause-rows : goal.returns-clause-rows
returns-clause-rows c =
    let piece = c.args.piece.now in
    let far = c.take_while-far.result in
    let near = c.take_while-near.result in
    let behind = rw take_rest at c.take_while-near.ensures.rows in (
      near.next,
      blocks_joined c.args.self.now c.args.from far.next near.next c.args.trace.now c.take_while-far.new.trace c.take_while-near.new.trace
          far.rows near.rows piece far.bytes near.bytes c.take_while-far.ensures.rows behind,
    )

pub returns-then-piece-le-SHORT-clause-rows : goal.returns-then-piece-le-SHORT-clause-rows
returns-then-piece-le-SHORT-clause-rows c = (c.take_short.result.next, c.take_short.ensures.rows)
