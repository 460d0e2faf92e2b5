-- A reader by its parts.
use Rattle.std.specs.Prelude.{◌≡◌, ◌⊎◌, ℕ, ◌+◌, ◌^◌, ◌<◌, ◌≤◌, true, false, List, [], ◌++◌, length, Some, None, Result, Ok, Err, MatchResult, IsSome}
use Rattle.stl_syntax.specs.Choice.{◌or_else◌, Where}
use Rattle.stl_syntax.specs.declared.scale.Scale.{Scale}
use Rattle.trace_reader.specs.Reader.{Reader, HasTaken, header_of}
use Rattle.stl_syntax.specs.Trace.{Row}
use Rattle.trace_reader.specs.TraceText.{lines, Heading, TraceOf}
use Rattle.trace_reader.specs.TraceRefusals.{HasTrace}
use Rattle.trace_reader.specs.Cut.{Fits}
use Rattle.trace_reader.specs.Progress.{Progress, ReadsLine}
use Rattle.trace_reader.specs.declared.refusal.Limits.{Limits}
use Rattle.trace_reader.specs.declared.refusal.TraceRefusal.{TraceRefusal}
use Rattle.trace_reader.specs.declared.refusal.TraceKind.TheVariants.{TooManyLines, LineTooLong}
use Rattle.trace_reader.specs.declared.event.Event.{Event}
use Rattle.trace_reader.specs.declared.event.Event.TheVariants.{Nothing, Header as IsTheHeader, Row as IsARow}
use Rattle.trace_reader.specs.declared.line_reader.LineReader.{LineReader}

-- a reader that goes on, with these parts
abbrev pub made : Limits → Progress → ℕ → List ℕ → Reader
made limits p begun line = record {
  limits = limits;
  least = p.least;
  begun = begun;
  line = line;
  heading = p.heading;
  row = p.row;
  count = p.count;
  refusal = None;
  ended = false;
}

abbrev pub state : Limits → LineReader → Reader
state limits p = made limits p.content p.lines.begun p.lines.line

-- its numbers are within the limits
pub record IsWithin (limits : Limits) (p : LineReader) : Type 0 where
  pub rows : limits.rows ≤ 2 ^ 32
  pub lines : limits.lines ≤ 2 ^ 33
  pub begun : p.lines.begun ≤ limits.lines
  pub line : length p.lines.line ≤ 4096
  pub fresh : p.content.heading ≡ None → p.content.fresh ≡ true

-- nothing was read
pub record IsStart (least : Scale) (p : LineReader) : Type 0 where
  pub lines : p.lines ≡ record { begun = 0; line = [] }
  pub content : p.content ≡ record { least = least; heading = None; row = record { time = 0; values = [] }; count = 0; fresh = true }

-- a line of `size` bytes, the last of `begun`, breaks a limit
abbrev pub IsLineRefusal : Limits → ℕ → ℕ → TraceRefusal → Type 0
IsLineRefusal limits begun size x = (x.line ≡ begun) × (Where (limits.lines < begun) TooManyLines or_else Where (4096 < size) LineTooLong) x.kind

-- what the bytes of a line that goes on come to
abbrev pub Holds : Limits → List ℕ → LineReader → LineReader → Result (Unit {0}) TraceRefusal → Type 0
Holds limits part old new r =
    let size : ℕ = length old.lines.line + length part in
    MatchResult r (λ _. Fits limits new.lines.begun size × (new.lines.line ≡ old.lines.line ++ part)) (IsLineRefusal limits new.lines.begun size)

-- what a whole line comes to, the last of `begun`
abbrev pub ReadsLineAt : Limits → ℕ → List ℕ → Progress → Progress → Result Event TraceRefusal → Type 0
ReadsLineAt limits begun line old new r =
    MatchResult r (λ e. ReadsLine limits line old new (Ok e)) (λ x. (x.line ≡ begun) × ReadsLine limits line old new (Err x.kind))

-- what the bytes of a line before its LF come to: a limit broken, or what the line is
abbrev pub Finishes : Limits → List ℕ → LineReader → LineReader → Result Event TraceRefusal → Type 0
Finishes limits part old new r =
    let size : ℕ = length old.lines.line + length part in
    let line : List ℕ = old.lines.line ++ part in
    MatchResult r (λ e. Fits limits new.lines.begun size × (new.lines.line ≡ []) × ReadsLine limits line old.content new.content (Ok e))
    (λ x. (IsLineRefusal limits new.lines.begun size x × (new.content ≡ old.content))
    ⊎ (Fits limits new.lines.begun size × (x.line ≡ new.lines.begun) × ReadsLine limits line old.content new.content (Err x.kind)))

-- all lines of the bytes were read, the last one as a whole line
pub record HasEnded (limits : Limits) (p : Progress) (begun : ℕ) (bytes : List ℕ) (rows : List Row) : Type 0 where
  pub before : List ℕ
  pub taken : HasTaken (made limits p begun []) before rows
  pub all_lines : lines true bytes ≡ taken.front

-- the bytes, all of them, are those of a trace with the heading that was read and these rows
abbrev pub IsWhole : Limits → Progress → List ℕ → List Row → Type 0
IsWhole limits p bytes rows =
    (h : Heading) × (p.heading ≡ Some h) × HasTrace bytes limits p.least (record { header = header_of p.least h; rows = rows })

-- the header of all bytes was read, which have no row
abbrev pub HasHeader : Progress → List ℕ → Type 0
HasHeader p bytes = (h : Heading) × (p.heading ≡ Some h) × TraceOf bytes true p.least (header_of p.least h) []

-- what an end comes to: a row, or nothing more
abbrev pub IsEnd : Event → Progress → Type 0
IsEnd IsARow p = IsSome p.heading × (0 < p.count)
IsEnd Nothing p = IsSome p.heading
IsEnd IsTheHeader p = ⊥
