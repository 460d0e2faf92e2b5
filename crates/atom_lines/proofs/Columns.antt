-- What a column is at the time of a row, and on the gap between two neighbouring rows.
use Rattle.std.proofs.Common.{◌≡◌, ℕ, zero, suc, ℤ, pos, ◌+◌, ◌-◌, ◌*◌, ◌<◌, ◌≤◌, ◌-ℤ◌, Bool, true, false}
use Rattle.std.proofs.Common.{List, [], ◌∷◌, length, get_or, Some, if◌then◌else◌, sym, ap, subst, ◌∙◌, arith}
use Rattle.std.specs.Prelude.{slice_get, bytes_eq}
use Rattle.std.proofs.lemmas.Bool.{false_from_ne_true}
use Rattle.std.proofs.lemmas.Option.{same_Some}
use Rattle.std.proofs.lemmas.Slice.Eq.{bytes_eq-Decides}
use Rattle.rational.specs.Time.{Rational, ◌≤ʳ◌, ◌<ʳ◌, ◌≈◌, whole}
use Rattle.rational.specs.Rational.{part_above, part_below}
use Rattle.rational.specs.Line.{at}
use Rattle.rational.proofs.Mixed.{parts}
use Rattle.rational.proofs.Order.{le_trans, lt_of_le_of_lt, le_of_same, ge_of_same, same_refl, same_sym}
use Rattle.rational.proofs.Ways.{on_way, passed, way_starts}
use Rattle.rational.proofs.TimeLemmas.{less_in, less_no}
use Rattle.stl_syntax.specs.Trace.{Column, Row, Trace, AreRows, AreRowsAfter, row_time, value}
use Rattle.stl_syntax.specs.Trace.{line_between, piece, value_from, column_value, value_among, value_of}
use Rattle.stl_syntax.proofs.PrefixLaw.{piece_starts}
use Rattle.atom_lines.specs.Binding.{IsColumn}

rows_rise : (r s : Row) → r.time < s.time → row_time r <ʳ row_time s
rows_rise r s h = record { lt = omega arith }

rows_stay : (r s : Row) → r.time ≤ s.time → row_time r ≤ʳ row_time s
rows_stay r s h = record { le = omega arith }

-- the times of rows do not fall
later_row : (n : ℕ) (r : Row) (rows : List Row) (k : ℕ) (q : Row) → AreRowsAfter n r.time rows → slice_get (r ∷ rows) k ≡ Some q → r.time ≤ q.time
later_row n r rows zero q ok h = let e : r.time ≡ q.time = ap (λ (x : Row). x.time) (same_Some r q h) in omega arith
later_row n r [] (suc k) q ok h = absurd (cc)
later_row n r (s ∷ rows) (suc k) q ok h = let e = later_row n s rows k q ok.2 h in let f = ok.0 in omega arith

at_row : (n : ℕ) (step : Bool) (c : ℕ) (r : Row) (rows : List Row) (t : Rational) → AreRowsAfter n r.time rows → t ≈ row_time r
    → value_from step c r rows t ≈ whole (value r c)
at_row n step c r [] t ok e = same_refl (whole (value r c))
at_row n step c r (s ∷ rows) t ok e =
    let soon : t <ʳ row_time s = lt_of_le_of_lt (le_of_same e) (rows_rise r s ok.0) in
    rw (less_in t (row_time s) soon) (piece_starts step c r s t e)

from_at_row : (n : ℕ) (step : Bool) (c : ℕ) (r : Row) (rows : List Row) (k : ℕ) (q : Row) (t : Rational)
    → AreRowsAfter n r.time rows → slice_get (r ∷ rows) k ≡ Some q
    → t ≈ row_time q → value_from step c r rows t ≈ whole (value q c)
from_at_row n step c r rows zero q t ok h e =
    let is : r ≡ q = same_Some r q h in
    subst (λ x. value_from step c r rows t ≈ whole (value x c)) is (at_row n step c r rows t ok (subst (λ (x : Row). t ≈ row_time x) (sym is) e))
from_at_row n step c r [] (suc k) q t ok h e = absurd (cc)
from_at_row n step c r (s ∷ rows) (suc k) q t ok h e =
    let reached : row_time s ≤ʳ t = le_trans (rows_stay s q (later_row n s rows k q ok.2 h)) (ge_of_same e) in
    rw (less_no t (row_time s) reached) (from_at_row n step c s rows k q t ok.2 h e)

from_in_gap : {p q : Row} (n : ℕ) (step : Bool) (c : ℕ) (r : Row) (rows : List Row) (k : ℕ) (t : Rational)
    → AreRowsAfter n r.time rows → slice_get (r ∷ rows) k ≡ Some p
    → slice_get (r ∷ rows) (suc k) ≡ Some q → row_time p ≤ʳ t → t <ʳ row_time q → value_from step c r rows t ≡ piece step c p q t
from_in_gap n step c r [] k t ok g h low high = absurd (cc)
from_in_gap {p} {q} n step c r (s ∷ rows) zero t ok g h low high =
    let first : r ≡ p = same_Some r p g in
    let second : s ≡ q = same_Some s q h in
    let soon : t <ʳ row_time s = subst (λ (x : Row). t <ʳ row_time x) (sym second) high in
    rw (less_in t (row_time s) soon) (ap (λ x. piece step c x s t) first ∙ ap (λ x. piece step c p x t) second)
from_in_gap {p} n step c r (s ∷ rows) (suc k) t ok g h low high =
    let reached : row_time s ≤ʳ t = le_trans (rows_stay s p (later_row n s rows k p ok.2 g)) low in
    rw (less_no t (row_time s) reached) (from_in_gap n step c s rows k t ok.2 g h low high)

-- at a row's time a column has the row's value
pub value_at_row : (n : ℕ) (step : Bool) (c : ℕ) (rows : List Row) (k : ℕ) (q : Row) (t : Rational) → AreRows n rows
    → slice_get rows k ≡ Some q → t ≈ row_time q
    → column_value step c rows t ≈ whole (value q c)
value_at_row n step c [] k q t ok h e = absurd ok
value_at_row n step c (r ∷ rows) k q t ok h e = from_at_row n step c r rows k q t ok.1 h e

-- on a gap it goes from the first row's value, or stays there
pub value_in_gap : {p q : Row} (n : ℕ) (step : Bool) (c : ℕ) (rows : List Row) (k : ℕ) (t : Rational) → AreRows n rows
    → slice_get rows k ≡ Some p → slice_get rows (suc k) ≡ Some q
    → row_time p ≤ʳ t → t <ʳ row_time q → column_value step c rows t ≡ piece step c p q t
value_in_gap n step c [] k t ok g h low high = absurd ok
value_in_gap n step c (r ∷ rows) k t ok g h low high = from_in_gap n step c r rows k t ok.1 g h low high

line_on_way' : (from gap : ℕ) (v w : ℤ) (t : Rational) (p : 0 < suc gap) → at (line_between from v gap w) t ≈ on_way v w (passed (pos from) (suc gap) p t)
line_on_way' from gap v w t p = record {
  same = omega (
    arith,
    ap (λ n. n * (t.up * (suc gap * t.den))) rise,
    ap (λ n. n * (t.down * (suc gap * t.den))) rise,
    ap (λ n. n * (from * t.den * (suc gap * t.den))) rise,
  );
}
  where
    rise : part_above (w -ℤ v) + part_below w + part_above v ≡ part_below (w -ℤ v) + part_above w + part_below v
    rise = omega (arith, parts)

line_on_way : (from gap run : ℕ) (v w : ℤ) (t : Rational) (p : 0 < run) → suc gap ≡ run
    → at (line_between from v gap w) t ≈ on_way v w (passed (pos from) run p t)
line_on_way from gap run v w t p e = subst (λ n. (p : 0 < n) → at (line_between from v gap w) t ≈ on_way v w (passed (pos from) n p t)) e
    (λ p. line_on_way' from gap v w t p) p

-- on a gap a column is on the way from the first row's value
pub piece_on_way : (step : Bool) (c : ℕ) (r s : Row) (t : Rational) (p : 0 < s.time - r.time)
    → piece step c r s t ≈ on_way (value r c) (if step then value r c else value s c) (passed (pos r.time) (s.time - r.time) p t)
piece_on_way true c r s t p = same_sym (way_starts (value r c) (passed (pos r.time) (s.time - r.time) p t))
piece_on_way false c r s t p = line_on_way r.time (s.time - suc r.time) (s.time - r.time) (value r c) (value s c) t p (omega arith)

-- the value of a name is that of its first column
among : (columns : List Column) (c : ℕ) (rows : List Row) (name : List ℕ) (t : Rational) (place : ℕ) (step : Bool) (i : ℕ)
    → IsColumn columns name place step → i ≡ c + place
    → value_among columns c rows name t ≡ column_value step i rows t
among [] c rows name t place step i h e = absurd h
among (k ∷ columns) c rows name t zero step i h e =
    rw ((bytes_eq-Decides k.name name).1 h.0) (ap (λ b. column_value b c rows t) h.1 ∙ ap (λ n. column_value step n rows t) (omega (arith, e)))
among (k ∷ columns) c rows name t (suc place) step i h e =
    let other : bytes_eq k.name name ≡ false = false_from_ne_true (bytes_eq k.name name) (λ e. h.0 ((bytes_eq-Decides k.name name).0 e)) in
    rw other (among columns (suc c) rows name t place step i h.1 (omega (arith, e)))

-- the column of a name is the one that it is bound to
pub value_of_name : (tr : Trace) (name : List ℕ) (t : Rational) (place : ℕ) (step : Bool) → IsColumn tr.header.columns name place step
    → value_of tr name t ≡ column_value step place tr.rows t
unfolding value_of
value_of_name tr name t place step h = among tr.header.columns 0 tr.rows name t place step place h (omega arith)

widths_after : (n time : ℕ) (rows : List Row) (k : ℕ) (d : Row) → AreRowsAfter n time rows → k < length rows → length (get_or rows k d).values ≡ n
widths_after n time [] k d ok h = absurd (omega arith)
widths_after n time (r ∷ rows) zero d ok h = ok.1
widths_after n time (r ∷ rows) (suc k) d ok h = widths_after n r.time rows k d ok.2 (omega arith)

-- each row has a value for each column
pub row_width : (n : ℕ) (rows : List Row) (k : ℕ) (d : Row) → AreRows n rows → k < length rows → length (get_or rows k d).values ≡ n
row_width n [] k d ok h = absurd ok
row_width n (r ∷ rows) zero d ok h = ok.0
row_width n (r ∷ rows) (suc k) d ok h = widths_after n r.time rows k d ok.1 (omega arith)

rise_after : (n time : ℕ) (r : Row) (rows : List Row) (k : ℕ) (d : Row) → AreRowsAfter n r.time rows → suc k < length (r ∷ rows)
    → (get_or (r ∷ rows) k d).time < (get_or (r ∷ rows) (suc k) d).time
rise_after n time r [] k d ok h = absurd (omega arith)
rise_after n time r (s ∷ rows) zero d ok h = ok.0
rise_after n time r (s ∷ rows) (suc k) d ok h = rise_after n time s rows k d ok.2 (omega arith)

-- each row is later than the one before it
pub next_row : (n : ℕ) (rows : List Row) (k : ℕ) (d : Row) → AreRows n rows → suc k < length rows → (get_or rows k d).time < (get_or rows (suc k) d).time
next_row n [] k d ok h = absurd ok
next_row n (r ∷ rows) k d ok h = rise_after n r.time r rows k d ok.1 h
