-- What a reader keeps.
use Rattle.std.specs.Prelude.{◌≡◌, ◌^◌, ◌≤◌, None, false}
use Rattle.trace_reader.specs.Reader.{Reader}
use Rattle.trace_reader.specs.LineReader.{state, IsWithin}
use Rattle.trace_reader.specs.declared.rows.Rows.TheInside.{Inside}

abbrev pub reader_of : Inside → Reader
reader_of a = record (state a.limits a.reading) { refusal = a.refusal; ended = a.ended }

-- its numbers are within the limits
pub record IsReader (a : Inside) : Type 0 where
  pub rows : a.limits.rows ≤ 2 ^ 32
  pub lines : a.limits.lines ≤ 2 ^ 33
  pub within : a.refusal ≡ None → a.ended ≡ false → IsWithin a.limits a.reading
