-- Rows of a stretch, by those of the last ticks.
use Rattle.std.proofs.Common.{◌≡◌, refl, ◌≤ℤ◌, ℕ, suc, ◌+◌, ◌≤◌, Bool, true, false, cond, List, [], ◌∷◌, ◌++◌, length, pos, arith}
use Rattle.std.proofs.lemmas.Int.{ints}
use Rattle.rational.specs.Time.{Rational, ◌≤ʳ◌, whole}
use Rattle.rational.proofs.Order.{le_trans}
use Rattle.rational.proofs.Shift.{le_whole}
use Rattle.stl_syntax.specs.Trace.{Row, row_time, last_time, AreRowsAfter}
use Rattle.stl_syntax.proofs.RowsLemmas.{last_from}
use Rattle.online_nodes.proofs.RowsLaw.{AreRowsSoFar}
use Rattle.bounds.specs.Turns.{is_within, rows_within, earlier}
use Rattle.bounds.proofs.AtomTurns.{counted, one_more}
use Rattle.bounds.proofs.HeldFew.{within_of}
use Rattle.watch_bounds.specs.Holdings.{last_rows}

-- each row comes by the time
abbrev pub AreBy : Rational → List Row → Type 0
AreBy t [] = Unit {0}
AreBy t (r ∷ rows) = (row_time r ≤ʳ t) × AreBy t rows

-- rows of a stretch are rows of one that begins no later and ends where they do
capped : (low lo hi last : Rational) (rows : List Row) → low ≤ʳ lo → AreBy last rows → rows_within lo hi rows ≤ rows_within low last rows
capped low lo hi last [] h by = omega arith
capped low lo hi last (r ∷ rows) h by = by_test (is_within lo hi (row_time r)) refl (capped low lo hi last rows h by.1)
  where
    by_test : (b : Bool) → is_within lo hi (row_time r) ≡ b → rows_within lo hi rows ≤ rows_within low last rows
        → cond b (suc (rows_within lo hi rows)) (rows_within lo hi rows) ≤ rows_within low last (r ∷ rows)
    by_test true e k =
        let a = counted low last r rows (le_trans h (within_of lo hi (row_time r) e).above) by.0 in omega (arith, a, k)
    by_test false e k = let a = one_more low last r rows in omega (arith, a, k)

whole_later : (a b : ℕ) → a ≤ b → whole (pos a) ≤ʳ whole (pos b)
whole_later a b h = let e : pos a ≤ℤ pos b = omega (arith, ints) in le_whole e

-- rows at rising times come by the last
after_by : (n time : ℕ) (rows : List Row) → AreRowsAfter n time rows → AreBy (whole (pos (last_time time rows))) rows
after_by n time [] h = tt
after_by n time (r ∷ rows) h = (whole_later r.time (last_time r.time rows) (last_from n r.time rows h.2), after_by n r.time rows h.2)

by_last : (n : ℕ) (rows : List Row) → AreRowsSoFar n rows → AreBy (whole (pos (last_time 0 rows))) rows
by_last n [] h = tt
by_last n (r ∷ rows) h = (whole_later r.time (last_time r.time rows) (last_from n r.time rows h.1), after_by n r.time rows h.1)

-- so those of a stretch that begins no more than k ticks before the last are among the last rows
pub among_last : (n k : ℕ) (rows : List Row) (lo hi : Rational) → AreRowsSoFar n rows → earlier (whole (pos (last_time 0 rows))) k ≤ʳ lo
    → rows_within lo hi rows ≤ last_rows k rows
among_last n k rows lo hi h begin =
    capped (earlier (whole (pos (last_time 0 rows))) k) lo hi (whole (pos (last_time 0 rows))) rows begin (by_last n rows h)

-- rows that come are no more than they are
pub within_more : (lo hi : Rational) (rows more : List Row) → rows_within lo hi (rows ++ more) ≤ rows_within lo hi rows + length more
within_more lo hi [] [] = omega arith
within_more lo hi [] (q ∷ more) = by_test (is_within lo hi (row_time q)) (within_more lo hi [] more)
  where
    by_test : (b : Bool) → rows_within lo hi more ≤ 0 + length more → cond b (suc (rows_within lo hi more)) (rows_within lo hi more) ≤ 0 + length (q ∷ more)
    by_test true k = omega (arith, k)
    by_test false k = omega (arith, k)
within_more lo hi (r ∷ rows) more = by_test (is_within lo hi (row_time r)) (within_more lo hi rows more)
  where
    by_test : (b : Bool) → rows_within lo hi (rows ++ more) ≤ rows_within lo hi rows + length more
        → cond b (suc (rows_within lo hi (rows ++ more))) (rows_within lo hi (rows ++ more))
        ≤ cond b (suc (rows_within lo hi rows)) (rows_within lo hi rows) + length more
    by_test true k = omega (arith, k)
    by_test false k = k
