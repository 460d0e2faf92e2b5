-- The network takes the quiet rows that wait in the block, and further ones: what it makes for them begins with the text that they have.
use Rattle.std.proofs.Common.{◌≡◌, sym, ap, ◌∙◌, subst, ℕ, ◌+◌, ◌-◌, ◌<◌, ◌≤◌, false, List, [], ◌∷◌, ◌++◌, length, take, drop, arith}
use Rattle.std.proofs.Common.{append_assoc, length-append}
use Rattle.std.proofs.lemmas.List.{append_cancel_left}
use Rattle.std.proofs.Math.Seq.{drop-append_seam, take-append_seam}
use Rattle.stl_syntax.specs.Formula.{root}
use Rattle.stl_syntax.specs.Trace.{Row, Trace}
use Rattle.atom_lines.specs.Rows.{row_of}
use Rattle.answer_lines.proofs.StreamTexts.{stream_grows}
use Rattle.trace_stream.specs.Following.{Follows}
use Rattle.trace_stream.specs.Kept.{with_rows}
use Rattle.trace_stream.specs.Streams.{verdicts, StreamText}
use Rattle.trace_stream.specs.declared.case.Case.{Case}
use Rattle.verdict_stream.specs.Watching.{IsWatched, IsLastAt, IsToldBefore, last_alone, IsBehind}
use Rattle.verdict_stream.specs.declared.watcher.Watcher.{Watcher}
use Rattle.verdict_stream.specs.declared.verdicts.Verdicts.{Verdicts}
use Rattle.verdict_stream.proofs.Blocks.{same_alone}
use Rattle.verdict_stream.proofs.RowsTogether.{last_of}

module _ (v : Verdicts) (c : Case) (made : List ℕ) (more : List Row) (b : IsBehind v c made more) where
  -- the first row of the block is the last one that the network took
  pub some_row : 0 < length v.block.rows
  some_row = subst (λ (t : Trace). 0 < length t.rows) (sym b.block) (omega arith)

  pub first_last : IsLastAt v.block 0 b.base.trace
  first_last = record {
    header = ap (λ (t : Trace). t.header) b.block;
    before = b.front;
    rows = b.rows ∙ ap (λ (t : Trace). b.front ++ row_of t 0 ∷ []) (sym b.block);
  }

  -- the others come behind it
  pub rest_rows : drop 1 v.block.rows ≡ b.quiet ++ more
  rest_rows = ap (λ (t : Trace). drop 1 t.rows) b.block

  -- with them it has the rows of the case, and the further ones
  pub case_is : with_rows (b.quiet ++ more) b.base ≡ with_rows more c
  case_is =
      ap (λ rs. record b.base { trace = record b.base.trace { rows = rs } }) (sym (append_assoc b.base.trace.rows b.quiet more))
      ∙ ap (λ (x : Case). with_rows more x) (sym b.case)

  -- of which the last one stands alone
  pub last_is : last_alone v.block ≡ last_alone (with_rows more c).trace
  last_is =
      let l = last_of (b.last ∷ (b.quiet ++ more)) (omega arith) in
      same_alone v.block (with_rows more c).trace l.front (b.front ++ l.front) l.last
      (ap (λ (t : Trace). t.header) b.block ∙ ap (λ (x : Case). x.trace.header) case_is) (ap (λ (t : Trace). t.rows) b.block ∙ l.is)
      (ap (λ (x : Case). x.trace.rows) (sym case_is) ∙ ap (λ rs. rs ++ (b.quiet ++ more)) b.rows ∙ append_assoc b.front (b.last ∷ []) (b.quiet ++ more)
      ∙ ap (λ rs. b.front ++ rs) l.is ∙ sym (append_assoc b.front l.front (l.last ∷ [])))

  -- the text that is made for all
  pub record IsCaught (w : Watcher) (text : List ℕ) : Type 0 where
    pub rest : List ℕ
    pub parts : text ≡ b.ahead ++ rest
    pub few : v.quiet.bytes ≤ length text
    pub beyond : drop v.quiet.bytes text ≡ rest
    pub watched : Follows (λ case made. IsWatched false w case) verdicts (with_rows more c) (made ++ rest)

  pub caught : (w : Watcher) (text : List ℕ) → Follows (λ case made. IsWatched false w case) verdicts (with_rows (b.quiet ++ more) b.base) (b.first ++ text)
      → IsCaught w text
  caught w text k =
      let k' = subst (λ (x : Case). Follows (λ case made. IsWatched false w case) verdicts x (b.first ++ text)) case_is k in
      let (rest, e) = stream_grows (root c.formula.nodes) c.trace.header c.trace.rows more false made (b.first ++ text) b.told k'.told in
      let all : b.first ++ text ≡ b.first ++ (b.ahead ++ rest) = e ∙ ap (λ t. t ++ rest) b.text ∙ append_assoc b.first b.ahead rest in
      let is : text ≡ b.ahead ++ rest = append_cancel_left b.first text (b.ahead ++ rest) all in
      record {
        rest = rest;
        parts = is;
        few = (let n = b.bytes in omega (arith, n, ap length is, length-append b.ahead rest));
        beyond = ap (λ n. drop n text) b.bytes ∙ ap (λ t. drop (length b.ahead) t) is ∙ drop-append_seam b.ahead rest;
        watched = subst (λ t. Follows (λ case made. IsWatched false w case) verdicts (with_rows more c) t) e k';
      }

  -- made by the rows' text, and what was owed
  pub made_of : (w : Watcher) (t0 t1 t2 g more_made : List ℕ) → t0 ≡ [] → t1 ≡ t0 ++ g → t2 ≡ t1 ++ more_made
      → Follows (λ case made. IsWatched false w case) verdicts (with_rows (drop 1 v.block.rows) b.base) ((b.first ++ g) ++ more_made) → IsCaught w t2
  made_of w t0 t1 t2 g more_made none one two k =
      let all : t2 ≡ g ++ more_made = two ∙ ap (λ t. t ++ more_made) (one ∙ ap (λ t. t ++ g) none) in
      caught w t2
      (subst (λ rs. Follows (λ case made. IsWatched false w case) verdicts (with_rows rs b.base) (b.first ++ t2)) rest_rows
      (subst (λ t. Follows (λ case made. IsWatched false w case) verdicts (with_rows (drop 1 v.block.rows) b.base) t)
      (append_assoc b.first g more_made ∙ ap (λ t. b.first ++ t) (sym all)) k))

  -- where the watcher took all rows of the block without a step, the text that was made is that of the rows before the further ones
  pub told_before : (times : List ℕ) → length times + 1 ≡ length v.block.rows
      → IsToldBefore (length times - v.quiet.rows) (with_rows (drop 1 v.block.rows) b.base) made
  told_before times all =
      let size : length v.block.rows ≡ length (b.last ∷ (b.quiet ++ more)) = ap (λ (t : Trace). length t.rows) b.block in
      let few : length (c.trace.rows ++ more) - (length times - v.quiet.rows) ≡ length c.trace.rows =
      (let n = b.count in omega (arith, all, size, n, length-append b.quiet more, length-append c.trace.rows more)) in
      let front : take (length (c.trace.rows ++ more) - (length times - v.quiet.rows)) (c.trace.rows ++ more) ≡ c.trace.rows =
      ap (λ k. take k (c.trace.rows ++ more)) few ∙ take-append_seam c.trace.rows more in
      subst (λ rs. IsToldBefore (length times - v.quiet.rows) (with_rows rs b.base) made) (sym rest_rows)
      (subst (λ (x : Case). IsToldBefore (length times - v.quiet.rows) x made) (sym case_is)
      (subst (λ rs. StreamText verdicts (root c.formula.nodes) c.trace.header rs false made) (sym front) b.told))
