-- Rows of a trace, one after another.
use Rattle.std.proofs.Common.{◌≡◌, ℕ, zero, suc, ◌+◌, ◌*◌, ◌<◌, ◌≤◌, List, [], ◌∷◌, ◌++◌, length, take}
use Rattle.std.proofs.Common.{◌-◌, drop, get_or, refl, sym, ap, ◌∙◌, arith, ℤ, nat_abs, mul-le-mul_right}
use Rattle.std.specs.Prelude.{All, pos}
use Rattle.std.proofs.lemmas.List.{take-append-le, drop-append-le, length-append, length-drop, drop-drop}
use Rattle.std.proofs.lemmas.List.{get_or-take, get_or-drop, get_or-append_right, take_all, nil_from_length}
use Rattle.std.proofs.lemmas.List.Elements.{All-append}
use Rattle.std.proofs.lemmas.Nat.{mul-add-lt}
use Rattle.stl_syntax.specs.Trace.{Row, Header, Trace, AreRows, last_time}
use Rattle.stl_syntax.proofs.RowsLemmas.{rows-push}
use Rattle.trace_reader.specs.Trace.{rows_of}
use Rattle.trace_reader.specs.Sofar.{AreRowsSoFar}

-- a row for each time
pub length-rows_of : (width : ℕ) (times : List ℕ) (values : List ℤ) → length (rows_of width times values) ≡ length times
length-rows_of width [] values = refl
length-rows_of width (t ∷ times) values = ap suc (length-rows_of width times (drop width values))

abbrev pub trace_with : Header → List Row → Trace
trace_with h rows = record { header = h; rows = rows }

abbrev pub row_with : ℕ → List ℤ → Row
row_with t values = record { time = t; values = values }

-- the row at a place
pub row_at : (width k : ℕ) (times : List ℕ) (values : List ℤ) (d : Row) → k < length times
    → get_or (rows_of width times values) k d ≡ row_with (get_or times k 0) (take width (drop (k * width) values))
row_at width k [] values d h = absurd (omega arith)
row_at width zero (t ∷ times) values d h = let z : 0 * width ≡ 0 = omega arith in rw z refl
row_at width (suc k) (t ∷ times) values d h =
    let e : width + k * width ≡ suc k * width = omega arith in
    row_at width k times (drop width values) d (omega arith)
    ∙ ap (λ vs. row_with (get_or times k 0) (take width vs)) (drop-drop (k * width) width values ∙ ap (λ n. drop n values) e)

-- a value of a row
pub value_at : (width k c : ℕ) (values : List ℤ) → c < width → get_or (take width (drop (k * width) values)) c (pos 0) ≡ get_or values (k * width + c) (pos 0)
value_at width k c values h = get_or-take width (drop (k * width) values) c (pos 0) h ∙ get_or-drop (k * width) values c (pos 0)

-- one row more
pub rows_of-push : (width : ℕ) (times : List ℕ) (t : ℕ) (values more : List ℤ) → length values ≡ length times * width → length more ≡ width
    → rows_of width (times ++ t ∷ []) (values ++ more) ≡ rows_of width times values ++ row_with t more ∷ []
rows_of-push width [] t values more h k =
    let z : length values ≡ 0 = omega (arith, h) in
    rw (nil_from_length values z, take_all width more (omega arith)) refl
rows_of-push width (s ∷ times) t values more h k =
    let n : length values ≡ width + length times * width = omega (arith, h) in
    let a : take width (values ++ more) ≡ take width values = take-append-le width values more (omega (arith, n)) in
    let b : drop width (values ++ more) ≡ drop width values ++ more = drop-append-le width values more (omega (arith, n)) in
    let l : length (drop width values) ≡ length times * width = length-drop width values ∙ omega (arith, n) in
    rw (a, b, rows_of-push width times t (drop width values) more l k) refl

-- a later row of the same width goes on
pub sofar-push : (width : ℕ) (rows : List Row) (r : Row) → AreRowsSoFar width rows → (0 < length rows → last_time 0 rows < r.time) → length r.values ≡ width
    → AreRowsSoFar width (rows ++ r ∷ [])
sofar-push width [] r h l w = (w, tt)
sofar-push width (s ∷ rows) r h l w = (h.0, rows-push width s.time rows r h.1 (l (omega arith)) w)

-- rows that rise, where there is one
pub sofar-some : (width : ℕ) (rows : List Row) → AreRowsSoFar width rows → 0 < length rows → AreRows width rows
sofar-some width [] h l = absurd (omega arith)
sofar-some width (r ∷ rows) h l = h

-- a row more in the lists of a trace
module _ (width : ℕ) (times times' : List ℕ) (values values' : List ℤ) (r : Row) (full : length values ≡ length times * width)
    (fits : length r.values ≡ width) (in_times : times' ≡ times ++ r.time ∷ []) (in_values : values' ≡ values ++ r.values) where
  -- a value more for each column
  pub push-full : length values' ≡ length times' * width
  push-full =
      let a : length values' ≡ length values + length r.values = ap length in_values ∙ length-append values r.values in
      let b : length times' ≡ length times + 1 = ap length in_times ∙ length-append times (r.time ∷ []) in
      let e : length times' * width ≡ length times * width + width = rw b (omega arith) in
      omega (arith, a, e)

  -- and a row more
  pub push-rows : rows_of width times' values' ≡ rows_of width times values ++ r ∷ []
  push-rows = rw (in_times, in_values) (rows_of-push width times r.time values r.values full fits)

  -- and all values small
  pub push-small : All (λ v. nat_abs v ≤ 16777216) values → All (λ v. nat_abs v ≤ 16777216) r.values → All (λ v. nat_abs v ≤ 16777216) values'
  push-small h k = rw in_values (All-append (λ v. nat_abs v ≤ 16777216) values r.values h k)

-- rows without the first ones
pub rows_of-drop : (width k : ℕ) (times : List ℕ) (values : List ℤ)
    → rows_of width (drop k times) (drop (k * width) values) ≡ drop k (rows_of width times values)
rows_of-drop width zero times values = let z : 0 * width ≡ 0 = omega arith in rw z refl
rows_of-drop width (suc k) [] values = refl
rows_of-drop width (suc k) (t ∷ times) values =
    let e : width + k * width ≡ suc k * width = omega arith in
    ap (rows_of width (drop k times)) (sym (drop-drop (k * width) width values ∙ ap (λ n. drop n values) e))
    ∙ rows_of-drop width k times (drop width values)

-- rise too
pub sofar-drop : (width k : ℕ) (rows : List Row) → AreRowsSoFar width rows → AreRowsSoFar width (drop k rows)
sofar-drop width zero rows h = h
sofar-drop width (suc k) [] h = tt
sofar-drop width (suc k) (r ∷ []) h = sofar-drop width k [] tt
sofar-drop width (suc k) (r ∷ s ∷ rows) h = sofar-drop width k (s ∷ rows) (h.1.1, h.1.2)

-- and have a value for each column
pub drop-full : (width k : ℕ) (times : List ℕ) (values : List ℤ) → length values ≡ length times * width
    → length (drop (k * width) values) ≡ length (drop k times) * width
drop-full width zero times values full = let z : 0 * width ≡ 0 = omega arith in rw z full
drop-full width (suc k) [] values full =
    let none : length values ≡ 0 = omega (arith, full) in
    let z : 0 * width ≡ 0 = omega arith in
    omega (arith, none, z, length-drop (suc k * width) values)
drop-full width (suc k) (t ∷ times) values full =
    let e : width + k * width ≡ suc k * width = omega arith in
    let all : length values ≡ width + length times * width = omega (arith, full) in
    let rest : length (drop width values) ≡ length times * width = length-drop width values ∙ omega (arith, all) in
    ap length (sym (drop-drop (k * width) width values ∙ ap (λ n. drop n values) e)) ∙ drop-full width k times (drop width values) rest

-- the last time of rows is that of the last of them
pub last_behind : (earlier rows : List Row) (m n : ℕ) → 0 < length rows → last_time m (earlier ++ rows) ≡ last_time n rows
last_behind earlier [] m n some = absurd (omega arith)
last_behind [] (r ∷ rows) m n some = refl
last_behind (e ∷ earlier) (r ∷ rows) m n some = last_behind earlier (r ∷ rows) e.time n some

-- where a value stands
pub place_within : (width k c n rows : ℕ) → k < rows → c < width → n ≡ rows * width → k * width + c < n
place_within width k c n rows h l e =
    omega (arith, mul-add-lt k width c rows h l, e)

-- the values of a row stand within those of all rows
pub row_within : (width k n rows : ℕ) → k + 1 ≤ rows → n ≡ rows * width → k * width + width ≤ n
row_within width k n rows h e = omega (arith, mul-le-mul_right width h, e)

-- where the values of the last row begin
pub last_place : (width k n m : ℕ) → n ≡ k + 1 → m ≡ n * width → m ≡ k * width + width
last_place width k n m e f = f ∙ ap (λ j. j * width) e ∙ omega arith

-- the last row has the last time and the last values
pub last_at : (width k : ℕ) (times : List ℕ) (values : List ℤ) (before : List Row) (r : Row) → length times ≡ k + 1
    → length values ≡ length times * width → rows_of width times values ≡ before ++ r ∷ [] → row_with (get_or times k 0) (drop (k * width) values) ≡ r
last_at width k times values before r n full e =
    let l : length before ≡ k = omega (arith, length-rows_of width times values, ap length e, length-append before (r ∷ []), n) in
    let m : length (drop (k * width) values) ≡ width =
    omega (arith, length-drop (k * width) values, last_place width k (length times) (length values) n full) in
    let whole : take width (drop (k * width) values) ≡ drop (k * width) values = take_all width (drop (k * width) values) (omega (arith, m)) in
    let last : get_or (before ++ r ∷ []) k r ≡ r =
    get_or-append_right before (r ∷ []) k k r l (omega arith) ∙ (let z : k - k ≡ 0 = omega arith in ap (λ i. get_or (r ∷ []) i r) z) in
    ap (row_with (get_or times k 0)) (sym whole) ∙ (sym (row_at width k times values r (omega (arith, n))) ∙ (ap (λ rs. get_or rs k r) e ∙ last))

-- rows that are not none have a last one
pub last_row : (rows : List Row) → 0 < length rows → (before : List Row) × (r : Row) × (rows ≡ before ++ r ∷ [])
last_row [] h = absurd (omega arith)
last_row (r ∷ []) h = ([], r, refl)
last_row (r ∷ s ∷ rows) h = let (before, t, e) = last_row (s ∷ rows) (omega arith) in (r ∷ before, t, ap (λ rs. r ∷ rs) e)
