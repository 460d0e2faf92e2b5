-- Two rows, of which one is the last that was read.
use Rattle.std.specs.Prelude.{Bool, true, false}
use Rattle.stl_syntax.specs.Trace.{Row}
use Rattle.trace_reader.specs.declared.two_rows.TwoRows.TheInside.{Inside as TwoInside}

-- the last row, and the one that is being read
pub record Two : Type 0 where
  pub last : Row
  pub next : Row

abbrev pub two_of : TwoInside → Two
two_of a = two a.turned
  where
    two : Bool → Two
    two true = record { last = a.second; next = a.first }
    two false = record { last = a.first; next = a.second }
