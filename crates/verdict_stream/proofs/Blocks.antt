-- Blocks of rows behind the last one that was taken.
use Rattle.std.proofs.Common.{◌≡◌, ℕ, zero, suc, ◌+◌, ◌-◌, ◌<◌, ◌≤◌, List, [], ◌∷◌, ◌++◌, length, take, drop, refl, Option, Some}
use Rattle.std.proofs.Common.{sym, ap, ◌∙◌, subst, arith, append-nil, append_assoc, take-add, take-append-drop, length-append, length-drop}
use Rattle.std.proofs.lemmas.List.{length-take-le, drop-drop, take_all, get_or-drop}
use Rattle.std.proofs.Math.Seq.{take-suc, drop-append_seam}
use Rattle.stl_syntax.specs.Trace.{Header, Row, Trace, last_time}
use Rattle.stl_syntax.proofs.RowsLemmas.{last_time-push}
use Rattle.trace_reader.specs.Reader.{Reader, StandsFor}
use Rattle.trace_reader.specs.Taken.{HasTraceSoFar}
use Rattle.atom_lines.specs.Rows.{row_of}
use Rattle.online_net.specs.Nets.{last_row_of, last_row_after}
use Rattle.online_net.specs.Stretches.{rows_between}
use Rattle.trace_stream.specs.Cases.{Takes}
use Rattle.verdict_stream.specs.Watching.{IsLastAt, last_alone, KeepsLast}
use Rattle.verdict_stream.proofs.RowsTogether.{last_of}

module _ (block : Trace) where
  -- so many rows stand between two places of the block
  pub count_between : (from to : ℕ) → from ≤ to → to < length block.rows → length (rows_between block from to) ≡ to - from
  count_between from to order within =
      length-take-le (to - from) (drop (suc from) block.rows) (omega (arith, order, within, length-drop (suc from) block.rows))

  -- none between a place and itself
  pub none_between : (at : ℕ) → rows_between block at at ≡ []
  none_between at = ap (λ n. take n (drop (suc at) block.rows)) (let e : at - at ≡ 0 = omega arith in e)

  -- those up to a place, and from there on
  pub between_both : (from at to : ℕ) → from ≤ at → at ≤ to
      → rows_between block from at ++ rows_between block at to ≡ rows_between block from to
  between_both from at to first second =
      ap (λ l. rows_between block from at ++ take (to - at) l)
      (ap (λ n. drop n block.rows) (let e : suc at ≡ suc from + (at - from) = omega (arith, first) in e) ∙ sym (drop-drop (at - from) (suc from) block.rows))
      ∙ sym (take-add (at - from) (to - at) (drop (suc from) block.rows))
      ∙ ap (λ n. take n (drop (suc from) block.rows)) (let e : (at - from) + (to - at) ≡ to - from = omega (arith, first, second) in e)

  -- one row more, by how many there are
  between_more : (from n : ℕ) → suc (from + n) < length block.rows
      → rows_between block from (suc (from + n)) ≡ rows_between block from (from + n) ++ row_of block (suc (from + n)) ∷ []
  between_more from n within =
      ap (λ k. take k (drop (suc from) block.rows)) (let e : suc (from + n) - from ≡ suc n = omega arith in e)
      ∙ take-suc (drop (suc from) block.rows) n (record { time = 0; values = [] }) (omega (arith, within, length-drop (suc from) block.rows))
      ∙ ap (λ r. take n (drop (suc from) block.rows) ++ r ∷ []) (get_or-drop (suc from) block.rows n (record { time = 0; values = [] })
      ∙ ap (λ k. row_of block k) (let e : suc from + n ≡ suc (from + n) = omega arith in e))
      ∙ ap (λ k. take k (drop (suc from) block.rows) ++ row_of block (suc (from + n)) ∷ []) (let e : n ≡ (from + n) - from = omega arith in e)

  -- one row more
  pub between_next : (from at : ℕ) → from ≤ at → suc at < length block.rows
      → rows_between block from (suc at) ≡ rows_between block from at ++ row_of block (suc at) ∷ []
  between_next from at order within =
      let e : from + (at - from) ≡ at = omega (arith, order) in
      subst (λ k. rows_between block from (suc k) ≡ rows_between block from k ++ row_of block (suc k) ∷ []) e
      (between_more from (at - from) (subst (λ k. suc k < length block.rows) (sym e) within))

  -- all rows behind the first one
  pub between_all : (last : ℕ) → length block.rows ≤ suc last → rows_between block 0 last ≡ drop 1 block.rows
  between_all last e = take_all (last - 0) (drop 1 block.rows) (omega (arith, e, length-drop 1 block.rows))

  -- the last of the rows behind a row is the last of the trace
  pub last_on : (t : Trace) (from to : ℕ) → from ≤ to → to < length block.rows → IsLastAt block from t
      → IsLastAt block to (record t { rows = t.rows ++ rows_between block from to })
  last_on t from to order within l =
      let e : from + (to - from) ≡ to = omega (arith, order) in
      subst (λ k. IsLastAt block k (record t { rows = t.rows ++ rows_between block from k })) e
      (by_count (to - from) (subst (λ k. k < length block.rows) (sym e) within))
    where
      by_count : (n : ℕ) → from + n < length block.rows → IsLastAt block (from + n) (record t { rows = t.rows ++ rows_between block from (from + n) })
      by_count zero h =
          let e : from ≡ from + 0 = omega arith in
          subst (λ k. IsLastAt block k (record t { rows = t.rows ++ rows_between block from k })) e (record {
            header = l.header;
            before = l.before;
            rows = ap (λ rs. t.rows ++ rs) (none_between from) ∙ append-nil t.rows ∙ l.rows;
          })
      by_count (suc n) h =
          let e : suc (from + n) ≡ from + suc n = omega arith in
          subst (λ k. IsLastAt block k (record t { rows = t.rows ++ rows_between block from k })) e (record {
            header = l.header;
            before = t.rows ++ rows_between block from (from + n);
            rows = ap (λ rs. t.rows ++ rs) (between_more from n (omega (arith, h)))
                ∙ sym (append_assoc t.rows (rows_between block from (from + n)) (row_of block (suc (from + n)) ∷ []));
          })

-- the last of rows and one more is that one
pub last_pushed : (rows : List Row) (r : Row) → last_row_of (rows ++ r ∷ []) ≡ Some r
last_pushed [] r = refl
last_pushed (q ∷ rows) r = ap (λ (l : Row). let x : Option Row = Some l in x) (by_rest q rows)
  where
    by_rest : (q : Row) (rows : List Row) → last_row_after q (rows ++ r ∷ []) ≡ r
    by_rest q [] = refl
    by_rest q (s ∷ rows) = by_rest s rows

-- what stands from the last row on is that row
drop_last : (rows before : List Row) (r : Row) → rows ≡ before ++ r ∷ [] → drop (length rows - 1) rows ≡ r ∷ []
drop_last rows before r e =
    ap (λ l. drop (length l - 1) l) e
    ∙ ap (λ n. drop n (before ++ r ∷ [])) (let n : length (before ++ r ∷ []) - 1 ≡ length before = omega (arith, length-append before (r ∷ [])) in n)
    ∙ drop-append_seam before (r ∷ [])

-- traces with one last row have it alone
pub same_alone : (block t : Trace) (front before : List Row) (r : Row) → block.header ≡ t.header → block.rows ≡ front ++ r ∷ [] → t.rows ≡ before ++ r ∷ []
    → last_alone block ≡ last_alone t
same_alone block t front before r header own of =
    ap (λ (rs : List Row). let x : Trace = record { header = block.header; rows = rs } in x)
    (drop_last block.rows front r own ∙ sym (drop_last t.rows before r of))
    ∙ ap (λ (h : Header). let x : Trace = record { header = h; rows = drop (length t.rows - 1) t.rows } in x) header

-- without rows nothing is kept
pub none_kept : (t : Trace) → t.rows ≡ [] → KeepsLast t t
none_kept t e =
    ap (λ (rs : List Row). let x : Trace = record { header = t.header; rows = rs } in x) (e ∙ sym (ap (λ (rs : List Row). drop (length rs - 1) rs) e))

module _ (block t : Trace) (k : KeepsLast block t) where
  -- it has the columns of the trace
  pub kept_header : block.header ≡ t.header
  kept_header = ap (λ (x : Trace). x.header) k

  -- and the rows of it behind those before its last
  rows_kept : block.rows ≡ drop (length t.rows - 1) t.rows
  rows_kept = ap (λ (x : Trace). x.rows) k

  -- with a row there is a last one of the trace, which it is
  pub record HasOne : Type 0 where
    pub before : List Row
    pub r : Row
    pub own : block.rows ≡ r ∷ []
    pub of : t.rows ≡ before ++ r ∷ []

  pub has_one : 0 < length block.rows → HasOne
  has_one some =
      let l = last_of t.rows (omega (arith, some, ap length rows_kept, length-drop (length t.rows - 1) t.rows)) in
      record { before = l.front; r = l.last; own = rows_kept ∙ drop_last t.rows l.front l.last l.is; of = l.is }

  -- rows that the trace may take, it may take
  pub kept_time : (r : Row) → Takes r t → 0 < length block.rows → last_time 0 block.rows < r.time
  kept_time r may some =
      let o = has_one some in
      subst (λ rs. last_time 0 rs < r.time) (sym o.own)
      (subst (λ n. n < r.time) (last_time-push 0 o.before o.r) (subst (λ rs. last_time 0 rs < r.time) o.of
      (may.1 (omega (arith, ap length o.of, length-append o.before (o.r ∷ []))))))

  -- with further rows behind it, its first row is the last of the trace
  pub first_is_last : 0 < length block.rows → (more : List Row) → IsLastAt (record block { rows = block.rows ++ more }) 0 t
  first_is_last some more =
      let o = has_one some in
      record {
        header = kept_header;
        before = o.before;
        rows = o.of ∙ ap (λ rs. o.before ++ row_of (record { header = block.header; rows = rs ++ more }) 0 ∷ []) (sym o.own);
      }

  -- these further rows are all behind it
  pub rest_is : 0 < length block.rows → (more : List Row) → drop 1 (block.rows ++ more) ≡ more
  rest_is some more = ap (λ rs. drop 1 (rs ++ more)) (has_one some).own

  -- and of the trace with them the last one stands alone
  pub kept_on : 0 < length block.rows → (more : List Row)
      → last_alone (record block { rows = block.rows ++ more }) ≡ last_alone (record t { rows = t.rows ++ more })
  kept_on some more =
      let o = has_one some in
      let l = last_of (o.r ∷ more) (omega arith) in
      same_alone (record block { rows = block.rows ++ more }) (record t { rows = t.rows ++ more }) l.front (o.before ++ l.front) l.last kept_header
      (ap (λ rs. rs ++ more) o.own ∙ l.is)
      (ap (λ rs. rs ++ more) o.of ∙ append_assoc o.before (o.r ∷ []) more ∙ ap (λ rs. o.before ++ rs) l.is
      ∙ sym (append_assoc o.before l.front (l.last ∷ [])))

  -- the reader has read its rows
  pub kept_so_far : (r : Reader) → HasTraceSoFar r t → HasTraceSoFar r block
  kept_so_far r h = record {
    bytes = h.bytes;
    earlier = h.earlier ++ take (length t.rows - 1) t.rows;
    stands = subst (λ rows. StandsFor r h.bytes rows)
        (ap (λ rs. h.earlier ++ rs) (sym (take-append-drop (length t.rows - 1) t.rows) ∙ ap (λ rs. take (length t.rows - 1) t.rows ++ rs) (sym rows_kept))
        ∙ sym (append_assoc h.earlier (take (length t.rows - 1) t.rows) block.rows)) h.stands;
    header = h.header ∙ ap Some (sym kept_header);
  }
