-- Traces: rows of values at rising times, counted in ticks, and read as columns over all rational times between the first and the last row.
use Rattle.std.specs.Prelude.{◌≡◌, ℕ, ◌+◌, ◌-◌, ◌*◌, ◌<◌, suc, Bool, true, false, List, [], ◌∷◌, length, ℤ}
use Rattle.std.specs.Prelude.{pos, if◌then◌else◌, slice_index_or, bytes_eq, ◌++◌, IsTrue, ◌≤◌, nat_abs, All}
use Rattle.std.proofs.Math.Nat.{zero-lt-suc}
use Rattle.rational.specs.Rational.{part_above, part_below}
use Rattle.rational.specs.Line.{Line, at}
use Rattle.rational.specs.Time.{Rational, whole, less}
use Rattle.stl_syntax.specs.declared.scale.Scale.{Scale}

-- a column's name, and whether its values are steps; else they are ramps
pub record Column : Type 0 where
  pub name : List ℕ
  pub step : Bool

-- a time, and a value for each column
pub record Row : Type 0 where
  pub time : ℕ
  pub values : List ℤ

-- a tick is 1/10^digits of a unit, by the scale's digits of time and of value
pub record Header : Type 0 where
  pub columns : List Column
  pub scale : Scale

-- a header and its rows
pub record Trace : Type 0 where
  pub header : Header
  pub rows : List Row

-- a row's time as a rational
abbrev pub row_time : Row → Rational
row_time r = whole (pos r.time)

-- a row's value in column c
abbrev pub value : Row → ℕ → ℤ
value r c = slice_index_or r.values c (pos 0)

-- each row is later than the time before it and has `width` values
abbrev pub AreRowsAfter : ℕ → ℕ → List Row → Type 0
AreRowsAfter width time [] = Unit {0}
AreRowsAfter width time (r ∷ rows) = (time < r.time) × (length r.values ≡ width) × AreRowsAfter width r.time rows

-- a trace has a row, the times of its rows rise strictly, and each row has a value for each column
abbrev pub AreRows : ℕ → List Row → Type 0
AreRows width [] = ⊥
AreRows width (r ∷ rows) = (length r.values ≡ width) × AreRowsAfter width r.time rows

-- the rows are those of a trace
pub record IsTrace (tr : Trace) : Type 0 where
  pub rows : AreRows (length tr.header.columns) tr.rows

-- the trace goes on from these rows; where the input has ended, it has just these
pub record Continues (tr : Trace) (header : Header) (rows : List Row) (ended : Bool) : Type 0 where
  pub same_header : tr.header ≡ header
  pub more : List Row
  pub begins : tr.rows ≡ rows ++ more
  pub whole_input : IsTrue ended → more ≡ []

-- the time of the last row, or `time` where there is none
abbrev pub last_time : ℕ → List Row → ℕ
last_time time [] = time
last_time time (r ∷ rows) = last_time r.time rows

-- the time of the first row
abbrev pub first_time : List Row → ℕ
first_time [] = 0
first_time (r ∷ rows) = r.time

-- the first row time, at which the domain begins
abbrev pub start : Trace → Rational
start tr = whole (pos (first_time tr.rows))

-- the last row time, at which it ends
abbrev pub stop : Trace → Rational
stop tr = whole (pos (last_time 0 tr.rows))

-- the line with the value v at the time `from`, and the value w at a time `gap` + 1 later
abbrev pub line_between : ℕ → ℤ → ℕ → ℤ → Line
line_between from v gap w = record {
  base_up = part_above v * suc gap + (part_below w + part_above v) * from;
  base_down = part_below v * suc gap + (part_above w + part_below v) * from;
  rise_up = part_above w + part_below v;
  rise_down = part_below w + part_above v;
  run = suc gap;
  positive = zero-lt-suc gap;
}

-- a column from row r on, up to the next row s
abbrev pub piece : Bool → ℕ → Row → Row → Rational → Rational
piece true c r s t = whole (value r c)
piece false c r s t = at (line_between r.time (value r c) (s.time - suc r.time) (value s c)) t

-- a column's value at t, by the last row that is not later than t, and the row after it
abbrev pub value_from : Bool → ℕ → Row → List Row → Rational → Rational
value_from step c r [] t = whole (value r c)
value_from step c r (s ∷ rows) t =
    if less t (row_time s) then piece step c r s t else value_from step c s rows t

-- a column's value at t
abbrev pub column_value : Bool → ℕ → List Row → Rational → Rational
column_value step c [] t = whole (pos 0)
column_value step c (r ∷ rows) t = value_from step c r rows t

-- the value at t of the column with that name, among the columns from place c on
abbrev pub value_among : List Column → ℕ → List Row → List ℕ → Rational → Rational
value_among [] c rows name t = whole (pos 0)
value_among (k ∷ columns) c rows name t =
    if bytes_eq k.name name then column_value k.step c rows t else value_among columns (suc c) rows name t

-- the value at t of the column with that name
unfoldable pub value_of : Trace → List ℕ → Rational → Rational
value_of tr name t = value_among tr.header.columns 0 tr.rows name t

-- the two traces have the same columns, scale, start and end
pub record IsLike (tr' tr : Trace) : Type 0 where
  pub header : tr'.header ≡ tr.header
  pub start_same : start tr' ≡ start tr
  pub stop_same : stop tr' ≡ stop tr

-- the row's time and its values lie within the limits, in ticks
pub record IsInRange (r : Row) : Type 0 where
  pub time : r.time ≤ 4294967295
  pub values : All (λ v. nat_abs v ≤ 16777216) r.values

-- each of the rows does
abbrev pub AreInRange : List Row → Type 0
AreInRange rows = All IsInRange rows
