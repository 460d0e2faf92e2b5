-- A trace as it is kept: its header, times in one list, and the values of all rows in another.
use Rattle.std.specs.Prelude.{◌≡◌, ℕ, ◌*◌, ◌≤◌, List, [], ◌∷◌, length, take, drop, ℤ, nat_abs, All}
use Rattle.stl_syntax.specs.Trace.{Row, Trace}
use Rattle.trace_reader.specs.Sofar.{AreRowsSoFar}
use Rattle.trace_reader.specs.declared.trace.Trace.TheInside.{Inside}

-- the rows with these times, each with the next `width` of the values
abbrev pub rows_of : ℕ → List ℕ → List ℤ → List Row
rows_of width [] values = []
rows_of width (t ∷ times) values = record { time = t; values = take width values } ∷ rows_of width times (drop width values)

-- the trace that is kept
abbrev pub trace_of : Inside → Trace
trace_of a = record { header = a.header; rows = rows_of (length a.header.columns) a.times.items a.values.items }

-- there is a value for each column and row, values are within their limit, and the times rise
pub record IsKept (a : Inside) : Type 0 where
  pub full : length a.values.items ≡ length a.times.items * length a.header.columns
  pub small : All (λ v. nat_abs v ≤ 16777216) a.values.items
  pub rising : AreRowsSoFar (length a.header.columns) (rows_of (length a.header.columns) a.times.items a.values.items)
