-- Rows in the order of their times: with one more, without the last ones, and their first and last time.
use Rattle.std.proofs.Common.{◌≡◌, ℕ, zero, suc, ◌<◌, ◌≤◌, List, [], ◌∷◌, ◌++◌, length, get_or, refl, sym, subst, arith}
use Rattle.stl_syntax.specs.Trace.{Row, Trace, AreRowsAfter, AreRows, IsTrace, first_time, last_time}

-- the last time is that of the row that came last
pub last_time-push : (time : ℕ) (rows : List Row) (r : Row) → last_time time (rows ++ r ∷ []) ≡ r.time
last_time-push time [] r = refl
last_time-push time (q ∷ rows) r = last_time-push q.time rows r

-- the last time is not before the time that rows come after
pub last_from : (n time : ℕ) (rows : List Row) → AreRowsAfter n time rows → time ≤ last_time time rows
last_from n time [] ok = omega arith
last_from n time (r ∷ rows) ok = let h = last_from n r.time rows ok.2 in let k = ok.0 in omega arith

-- the last time does not fall as rows come
pub last_grows : (n time : ℕ) (rows more : List Row) → AreRowsAfter n time (rows ++ more) → last_time time rows ≤ last_time time (rows ++ more)
last_grows n time [] more ok = last_from n time more ok
last_grows n time (r ∷ rows) more ok = last_grows n r.time rows more ok.2

-- a later row of the same width goes on
pub rows-push : (n time : ℕ) (rows : List Row) (r : Row) → AreRowsAfter n time rows → last_time time rows < r.time → length r.values ≡ n
    → AreRowsAfter n time (rows ++ r ∷ [])
rows-push n time [] r h l w = (l, w, tt)
rows-push n time (q ∷ rows) r h l w = (h.0, h.1, rows-push n q.time rows r h.2 l w)

-- the rows of the front are in order too
pub rows_in_front : (n time : ℕ) (rows more : List Row) → AreRowsAfter n time (rows ++ more) → AreRowsAfter n time rows
rows_in_front n time [] more ok = tt
rows_in_front n time (r ∷ rows) more ok = (ok.0, ok.1, rows_in_front n r.time rows more ok.2)

-- a row is later than those before it
pub row_later : (n time : ℕ) (rows : List Row) (r : Row) (more : List Row) → AreRowsAfter n time (rows ++ r ∷ more) → last_time time rows < r.time
row_later n time [] r more ok = ok.0
row_later n time (q ∷ rows) r more ok = row_later n q.time rows r more ok.2

-- the first time by the place of the first row
pub first_time_at : (rows : List Row) (d : Row) → 0 < length rows → first_time rows ≡ (get_or rows 0 d).time
first_time_at [] d h = absurd (omega arith)
first_time_at (r ∷ rows) d h = refl

-- the last time by the place of the last row
pub last_time_at : (time : ℕ) (rows : List Row) (n : ℕ) (d : Row) → length rows ≡ suc n → last_time time rows ≡ (get_or rows n d).time
last_time_at time [] n d h = absurd (omega arith)
last_time_at time (r ∷ []) n d h = let e : n ≡ 0 = omega (arith, h) in subst (λ m. r.time ≡ (get_or (r ∷ []) m d).time) (sym e) refl
last_time_at time (r ∷ s ∷ rows) zero d h = absurd (omega (arith, h))
last_time_at time (r ∷ s ∷ rows) (suc n) d h = last_time_at r.time (s ∷ rows) n d (omega (arith, h))

-- the first time is not after the last
pub first_le_last : (n : ℕ) (rows : List Row) → AreRows n rows → first_time rows ≤ last_time 0 rows
first_le_last n [] h = absurd h
first_le_last n (r ∷ rows) h = last_from n r.time rows h.1

-- so for the rows of a trace
pub first_to_last : (t : Trace) → IsTrace t → first_time t.rows ≤ last_time 0 t.rows
first_to_last t ok = first_le_last (length t.header.columns) t.rows ok.rows
