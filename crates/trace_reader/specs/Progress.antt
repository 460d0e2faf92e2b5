-- What the lines of a trace come to, one after another.
use Rattle.std.specs.Prelude.{◌≡◌, ℕ, zero, suc, ◌+◌, ◌<◌, Bool, true, false, List, length, Option, Some, None, Result, Ok, Err}
use Rattle.stl_syntax.specs.Trace.{Row, IsInRange}
use Rattle.stl_syntax.specs.declared.scale.Scale.{Scale}
use Rattle.trace_reader.specs.TraceText.{Heading, IsHeading, IsRow, fields, is_blank_line, scale_of}
use Rattle.trace_reader.specs.TraceRefusals.{HeaderFault, RowFault}
use Rattle.trace_reader.specs.LineParts.{whole_line, fields_of}
use Rattle.trace_reader.specs.declared.refusal.Limits.{Limits}
use Rattle.trace_reader.specs.declared.refusal.TraceKind.{TraceKind}
use Rattle.trace_reader.specs.declared.event.Event.{Event}
use Rattle.trace_reader.specs.declared.event.Event.TheVariants.{Nothing, Header as IsTheHeader, Row as IsARow}

-- the heading, once it was read, the last row, how many rows were read, and whether there is room for a heading
pub record Progress : Type 0 where
  pub least : Scale
  pub heading : Option Heading
  pub row : Row
  pub count : ℕ
  pub fresh : Bool

-- the time of the last row, where there is one
abbrev pub last_of : ℕ → Row → Option ℕ
last_of zero r = None
last_of (suc n) r = Some r.time

-- a whole line after this progress: what it is, and the progress after it
pub data ReadsLine (limits : Limits) (line : List ℕ) (old new : Progress) : Result Event TraceKind → Type 0 where
  blank : is_blank_line (whole_line line) ≡ true → new ≡ old → ReadsLine limits line old new (Ok Nothing)
  heading : (h : Heading) → is_blank_line (whole_line line) ≡ false → old.heading ≡ None → IsHeading (fields (whole_line line)) h
      → ((k : TraceKind) → ¬ HeaderFault (fields (whole_line line)) k) → new ≡ record old { heading = Some h; fresh = false }
      → ReadsLine limits line old new (Ok IsTheHeader)
  row : (h : Heading) → is_blank_line (whole_line line) ≡ false → old.heading ≡ Some h → IsRow (scale_of old.least h) h (fields (whole_line line)) new.row
      → ((k : TraceKind) → ¬ RowFault limits (scale_of old.least h) h old.count (last_of old.count old.row) (fields (whole_line line)) k)
      → IsInRange new.row → length new.row.values ≡ length h.columns → (0 < old.count → old.row.time < new.row.time) → old.count < limits.rows
      → new ≡ record old { row = new.row; count = old.count + 1 } → ReadsLine limits line old new (Ok IsARow)
  bad_heading : (k : TraceKind) → is_blank_line (whole_line line) ≡ false → old.heading ≡ None → HeaderFault (fields (whole_line line)) k
      → new ≡ record old { fresh = false } → ReadsLine limits line old new (Err k)
  bad_row : (h : Heading) (k : TraceKind) → is_blank_line (whole_line line) ≡ false → old.heading ≡ Some h
      → RowFault limits (scale_of old.least h) h old.count (last_of old.count old.row) (fields (whole_line line)) k → new ≡ old
      → ReadsLine limits line old new (Err k)

-- the text of a line that may be the header: what it is, and the progress after it
pub data ReadsHeading (text : List ℕ) (old new : Progress) : Result Event TraceKind → Type 0 where
  heading : (h : Heading) → IsHeading (fields_of (Some text)) h → ((k : TraceKind) → ¬ HeaderFault (fields_of (Some text)) k)
      → new ≡ record old { heading = Some h; fresh = false } → ReadsHeading text old new (Ok IsTheHeader)
  bad_heading : (k : TraceKind) → HeaderFault (fields_of (Some text)) k → new ≡ record old { fresh = false } → ReadsHeading text old new (Err k)

-- the text of a line that may be a row: what it is, and the progress after it
pub data ReadsRow (limits : Limits) (text : List ℕ) (old new : Progress) : Result Event TraceKind → Type 0 where
  row : (h : Heading) → old.heading ≡ Some h → IsRow (scale_of old.least h) h (fields_of (Some text)) new.row
      → ((k : TraceKind) → ¬ RowFault limits (scale_of old.least h) h old.count (last_of old.count old.row) (fields_of (Some text)) k)
      → IsInRange new.row → length new.row.values ≡ length h.columns → (0 < old.count → old.row.time < new.row.time) → old.count < limits.rows
      → new ≡ record old { row = new.row; count = old.count + 1 } → ReadsRow limits text old new (Ok IsARow)
  bad_row : (h : Heading) (k : TraceKind) → old.heading ≡ Some h
      → RowFault limits (scale_of old.least h) h old.count (last_of old.count old.row) (fields_of (Some text)) k
      → new ≡ old → ReadsRow limits text old new (Err k)
