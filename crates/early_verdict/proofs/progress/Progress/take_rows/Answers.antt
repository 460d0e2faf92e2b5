use Rattle.std.proofs.Common.{◌≡◌, ℕ, suc, ◌+◌, ◌-◌, ◌++◌, ◌∷◌, [], List, Some, false, length, take, drop, sym, ap, subst}
use Rattle.std.proofs.Common.{◌∙◌, arith, append_assoc, append-nil}
use Rattle.rational.proofs.Lists.{take_rest}
use Rattle.stl_syntax.specs.Trace.{Row, Trace}
use Rattle.atom_lines.specs.Rows.{row_of}
use Rattle.early_verdict.specs.BlockRows.{own_row, previous_row, row_before}
use Rattle.early_verdict.specs.Deciding.{Stands, kept_of}
use Rattle.early_verdict.specs.declared.block_row.BlockRow.{BlockRow}
use Rattle.early_verdict.proofs.RowAnswers.{stays_same, stays_then}
use Rattle.early_verdict.proofs.BlockLemmas.{rows_next}
use Rattle.early_verdict.proofs.progress.Progress.take_rows.Goals as goal

-- the row and the one before it, as the block has them
previous_is : (x : BlockRow) (block : Trace) (at : ℕ) → x.block.now ≡ block → x.at ≡ at → previous_row x ≡ row_before block at
previous_is x block at e f = ap (λ (b : Trace). row_before b x.at) e ∙ ap (λ n. row_before block n) f

own_is : (x : BlockRow) (block : Trace) (at : ℕ) → x.block.now ≡ block → x.at ≡ at → own_row x ≡ row_of block at
own_is x block at e f = ap (λ (b : Trace). row_of b x.at) e ∙ ap (λ n. row_of block n) f

pub loop-at-init : goal.loop-at-init
loop-at-init c = record {
  stands = λ header rows st.
      subst (λ n. Stands (kept_of c.args.formula.now c.args.bound.now header (row_before c.args.block.now c.args.from) c.args.self.now)
      (rows ++ take n (drop c.args.from c.args.block.now.rows)) false)
      (let e : 0 ≡ c.args.from - c.args.from = omega arith in e)
      (subst (λ (l : List Row). Stands (kept_of c.args.formula.now c.args.bound.now header (row_before c.args.block.now c.args.from) c.args.self.now) l false)
      (sym (append-nil rows)) st);
  decided = stays_same c.args.self.now.decided;
}

pub take-requires-clause-stands : goal.take-requires-clause-stands
take-requires-clause-stands c =
    let (header, rows, st) = c.requires.stands in
    let block = c.args.block.now in (
      header,
      rows ++ take (c.loop-at.at - c.args.from) (drop c.args.from block.rows),
      subst (λ p. Stands (kept_of c.args.formula.now c.args.bound.now header p c.loop-at.self)
          (rows ++ take (c.loop-at.at - c.args.from) (drop c.args.from block.rows)) false)
          (sym (previous_is c.new.result block c.loop-at.at c.new.ensures.block c.new.ensures.at))
          (c.loop-at.invariant.stands header rows st),
    )

pub take-requires-clause-columns : goal.take-requires-clause-columns
take-requires-clause-columns c = ap (λ (b : Trace). length b.header.columns) c.new.ensures.block ∙ c.requires.columns

pub loop-at-preserved : goal.loop-at-preserved
loop-at-preserved c =
    let block = c.args.block.now in
    let from = c.args.from in
    let at = c.loop-at.at in
    let f = c.args.formula.now in
    let b = c.args.bound.now in
    let x = c.new.result in
    let own = own_is x block at c.new.ensures.block c.new.ensures.at in
    record {
      stands = λ header rows st.
          let seen = take (at - from) (drop from block.rows) in
          let was = subst (λ p. Stands (kept_of f b header p c.loop-at.self) (rows ++ seen) false)
          (sym (previous_is x block at c.new.ensures.block c.new.ensures.at)) (c.loop-at.invariant.stands header rows st) in
          let now = subst (λ (r : Row). Stands (kept_of f b header (Some r) c.take.new.self) ((rows ++ seen) ++ r ∷ []) false) own
          (c.in_ok-take.ensures.stands header (rows ++ seen) was) in
          let more : (rows ++ seen) ++ row_of block at ∷ [] ≡ rows ++ take (suc at - from) (drop from block.rows) =
          append_assoc rows seen (row_of block at ∷ []) ∙ ap (λ (l : List Row). rows ++ l)
          (sym (rows_next block.rows from at (omega arith) (omega arith))) in
          subst (λ n. Stands (kept_of f b header (row_before block n) c.take.new.self) (rows ++ take (n - from) (drop from block.rows)) false)
          (let e : suc at ≡ at + 1 = omega arith in e)
          (subst (λ (l : List Row). Stands (kept_of f b header (Some (row_of block at)) c.take.new.self) l false) more now);
      decided = stays_then c.args.self.now.decided c.loop-at.self.decided c.take.new.self.decided c.loop-at.invariant.decided c.in_ok-take.ensures.decided;
    }

pub returns-clause-stands : goal.returns-clause-stands
returns-clause-stands c header rows st =
    let block = c.args.block.now in
    let from = c.args.from in
    let end : c.loop-at.at ≡ length block.rows = omega arith in
    subst (λ (l : List Row). Stands (kept_of c.args.formula.now c.args.bound.now header (row_before block (length block.rows)) c.loop-at.self)
    (rows ++ l) false)
    (take_rest block.rows from)
    (subst (λ n. Stands (kept_of c.args.formula.now c.args.bound.now header (row_before block n) c.loop-at.self)
    (rows ++ take (n - from) (drop from block.rows)) false) end (c.loop-at.invariant.stands header rows st))

pub returns-clause-decided : goal.returns-clause-decided
returns-clause-decided c = (c.loop-at.invariant.decided, c.newly.ensures)
