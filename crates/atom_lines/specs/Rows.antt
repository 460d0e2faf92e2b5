-- The rows of a trace by their places.
use Rattle.std.specs.Prelude.{ℕ, ℤ, List, [], slice_index_or}
use Rattle.stl_syntax.specs.Trace.{Row, Trace}

-- row k, counted from 0
abbrev pub row_of : Trace → ℕ → Row
row_of tr k = slice_index_or tr.rows k (record { time = 0; values = [] })

abbrev pub values_at : Trace → ℕ → List ℤ
values_at tr k = (row_of tr k).values
