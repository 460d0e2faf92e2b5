-- A header as it is kept.
use Rattle.std.specs.Prelude.{map}
use Rattle.std.specs.String.{string_bytes}
use Rattle.stl_syntax.specs.Trace.{Column, Header}
use Rattle.trace_reader.specs.declared.header.Label.{Label}
use Rattle.trace_reader.specs.declared.header.Header.TheInside.{Inside}

-- a column of a header
abbrev pub column_of : Label → Column
column_of l = record { name = string_bytes l.name; step = l.step }

-- the columns and the ticks
abbrev pub columns_of : Inside → Header
columns_of a = record { columns = map column_of a.labels.items; scale = a.scale }
