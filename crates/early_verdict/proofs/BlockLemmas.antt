-- The rows of a block, each right behind the one before it.
use Rattle.std.proofs.Common.{◌≡◌, ℕ, zero, suc, ◌+◌, ◌-◌, ◌<◌, ◌≤◌, List, [], ◌∷◌, ◌++◌, length, take, drop, get_or, Some, None}
use Rattle.std.proofs.Common.{Bool, false, refl, sym, ap, subst, ◌∙◌, arith, append_assoc, append-nil, length-drop}
use Rattle.std.specs.Prelude.{◌↔◌, IfSome, IsTrue}
use Rattle.std.proofs.lemmas.Bool.{true≢false}
use Rattle.std.proofs.lemmas.List.{get_or-drop}
use Rattle.std.proofs.lemmas.Option.{same_Some}
use Rattle.std.proofs.Math.Seq.{take-suc}
use Rattle.stl_syntax.specs.Trace.{Header, Row, Trace, last_time}
use Rattle.trace_reader.specs.Reader.{Reader, StandsFor}
use Rattle.trace_reader.specs.Taken.{HasTraceSoFar}
use Rattle.atom_lines.specs.Rows.{row_of}
use Rattle.early_verdict.specs.BlockRows.{own_row, previous_row, row_before}
use Rattle.early_verdict.specs.Deciding.{last_after, last_of}
use Rattle.early_verdict.specs.declared.block_row.BlockRow.{BlockRow}
use Rattle.early_verdict.proofs.RowLemmas.{last_is}

abbrev d : Row
d = record { time = 0; values = [] }

-- a number that is not 0
pub not_first : (n : ℕ) (b : Bool) → (IsTrue b ↔ (n ≡ 0)) → b ≡ false → 0 < n
not_first zero b i e = absurd (true≢false (sym (i.1 refl) ∙ e))
not_first (suc n) b i e = omega arith

-- the row before a place behind the first
pub row_before_is : (block : Trace) (at : ℕ) → 0 < at → row_before block at ≡ Some (row_of block (at - 1))
row_before_is block zero h = absurd (omega (arith, h))
row_before_is block (suc k) h = ap (λ n. Some (row_of block n)) (let e : k ≡ suc k - 1 = omega arith in e)

-- none stands before the first
pub none_before : (block : Trace) (at : ℕ) → at ≡ 0 → row_before block at ≡ None
none_before block at e = ap (λ n. row_before block n) e

-- a row has a value for each column
pub own_wide : (x : BlockRow) → length (own_row x).values ≡ length x.block.now.header.columns
own_wide x = x.wide

-- it is later than the one before it
pub own_later : (x : BlockRow) → IfSome (previous_row x) (λ q. q.time < (own_row x).time)
own_later x = by_place x.at refl
  where
    by_place : (n : ℕ) → n ≡ x.at → IfSome (row_before x.block.now n) (λ q. q.time < (own_row x).time)
    by_place zero e = tt
    by_place (suc k) e = x.later k (sym e)

-- the last of rows that others follow
last_in_front : (r : Row) (rows more : List Row) → get_or (r ∷ (rows ++ more)) (length rows) d ≡ last_after r rows
last_in_front r [] more = refl
last_in_front r (s ∷ rows) more = last_in_front s rows more

-- the row before those that follow is the last
pub before_more : (header : Header) (rows more : List Row) → row_before (record { header = header; rows = rows ++ more }) (length rows) ≡ last_of rows
before_more header [] more = refl
before_more header (r ∷ rows) more = ap Some (last_in_front r rows more)

-- the row before the end is the last
pub before_end : (block : Trace) → row_before block (length block.rows) ≡ last_of block.rows
before_end block =
    subst (λ (rows : List Row). row_before (record { header = block.header; rows = rows }) (length block.rows) ≡ last_of block.rows) (append-nil block.rows)
    (before_more block.header block.rows [])

-- where there is a last row, it stands at the last place
pub last_place : (rows : List Row) (q : Row) → last_of rows ≡ Some q → (0 < length rows) × (get_or rows (length rows - 1) d ≡ q)
last_place [] q e = absurd (let f : None ≡ Some q = e in cc)
last_place (r ∷ rows) q e = (
  omega arith,
  ap (λ n. get_or (r ∷ rows) n d) (let k : length (r ∷ rows) - 1 ≡ length rows = omega arith in k)
      ∙ subst (λ (l : List Row). get_or (r ∷ l) (length rows) d ≡ last_after r rows) (append-nil rows) (last_in_front r rows [])
      ∙ same_Some (last_after r rows) q e,
)

-- what follows rows is what is left without them
pub behind_rows : (rows more : List Row) → drop (length rows) (rows ++ more) ≡ more
behind_rows [] more = refl
behind_rows (r ∷ rows) more = behind_rows rows more

-- the last row alone has the same last row
pub last_kept : (rows : List Row) → last_of (drop (length rows - 1) rows) ≡ last_of rows
last_kept [] = refl
last_kept (r ∷ rows) = subst (λ n. last_of (drop n (r ∷ rows)) ≡ Some (last_after r rows)) (let e : length rows ≡ length (r ∷ rows) - 1 = omega arith in e)
    (alone r rows)
  where
    alone : (r : Row) (rows : List Row) → last_of (drop (length rows) (r ∷ rows)) ≡ Some (last_after r rows)
    alone r [] = refl
    alone r (s ∷ rows) = alone s rows

-- and there is one at most
pub one_kept : (rows : List Row) → length (drop (length rows - 1) rows) ≤ 1
one_kept rows = let e = length-drop (length rows - 1) rows in omega (arith, e)

-- one row more of those from a place on
pub rows_next : (rows : List Row) (from at : ℕ) → from ≤ at → at < length rows
    → take (suc at - from) (drop from rows) ≡ take (at - from) (drop from rows) ++ get_or rows at d ∷ []
rows_next rows from at low high =
    ap (λ n. take n (drop from rows)) (let e : suc at - from ≡ suc (at - from) = omega (arith, low) in e)
    ∙ take-suc (drop from rows) (at - from) d (let e = length-drop from rows in omega (arith, low, high, e))
    ∙ ap (λ (r : Row). take (at - from) (drop from rows) ++ r ∷ []) (get_or-drop from rows (at - from) d
    ∙ ap (λ n. get_or rows n d) (let e : from + (at - from) ≡ at = omega (arith, low) in e))

-- a later row goes on from rows
pub later_than : (rows : List Row) (r : Row) → IfSome (last_of rows) (λ q. q.time < r.time) → 0 < length rows → last_time 0 rows < r.time
later_than [] r h some = absurd (omega (arith, some))
later_than (q ∷ rows) r h some = subst (λ t. t < r.time) (sym (last_is q rows)) h

-- rows that end with a last one
pub front_of : (rows : List Row) (q : Row) → last_of rows ≡ Some q → (front : List Row) × (rows ≡ front ++ q ∷ [])
front_of [] q e = absurd (let f : None ≡ Some q = e in cc)
front_of (r ∷ rows) q e = by_rows r rows (same_Some (last_after r rows) q e)
  where
    by_rows : (r : Row) (rows : List Row) → last_after r rows ≡ q → (front : List Row) × (r ∷ rows ≡ front ++ q ∷ [])
    by_rows r [] e = ([], ap (λ x. x ∷ []) e)
    by_rows r (s ∷ rows) e = let (front, f) = by_rows s rows e in (r ∷ front, ap (λ l. r ∷ l) f)

-- a block with the last of the rows that were read stands behind the others
pub so_far_of : (reader : Reader) (block : Trace) (rows : List Row) → last_of block.rows ≡ last_of rows → length block.rows ≤ 1 → 0 < length block.rows
    → HasTraceSoFar reader (record { header = block.header; rows = rows }) → HasTraceSoFar reader block
so_far_of reader block rows e one some has = by_rows block.rows refl one some
  where
    by_rows : (l : List Row) → block.rows ≡ l → length l ≤ 1 → 0 < length l → HasTraceSoFar reader block
    by_rows [] is one some = absurd (omega (arith, some))
    by_rows (q ∷ r ∷ l) is one some = absurd (omega (arith, one))
    by_rows (q ∷ []) is one some =
        let (front, f) = front_of rows q (sym e ∙ ap last_of is) in
        record {
          bytes = has.bytes;
          earlier = has.earlier ++ front;
          stands = subst (λ (l : List Row). StandsFor reader has.bytes ((has.earlier ++ front) ++ l)) (sym is)
              (subst (λ (l : List Row). StandsFor reader has.bytes l)
              (ap (λ (l : List Row). has.earlier ++ l) f ∙ sym (append_assoc has.earlier front (q ∷ [])))
              has.stands);
          header = has.header;
        }
