-- A reader of traces, and the bytes that it stands for.
use Rattle.std.specs.Prelude.{◌≡◌, ℕ, suc, ◌-◌, ◌<◌, Bool, true, false, List, [], ◌∷◌, ◌++◌, length, take, All, Option, Some, None, option_map, IsSome}
use Rattle.stl_syntax.specs.Trace.{Row, Header, last_time, AreInRange}
use Rattle.stl_syntax.specs.declared.scale.Scale.{Scale}
use Rattle.trace_reader.specs.Sofar.{AreRowsSoFar}
use Rattle.trace_reader.specs.TraceText.{Line, lines, is_blank_line, Heading, scale_of, AreRowLines, AreTraceLines, TraceOf}
use Rattle.trace_reader.specs.TraceRefusals.{FaultFrom, FaultAfter, IsFirstFault, HasTrace}
use Rattle.trace_reader.specs.Feeds.{HasNoFeed}
use Rattle.trace_reader.specs.declared.refusal.Limits.{Limits}
use Rattle.trace_reader.specs.declared.refusal.TraceRefusal.{TraceRefusal}
use Rattle.trace_reader.specs.declared.event.Event.{Event}
use Rattle.trace_reader.specs.declared.event.Event.TheVariants.{Nothing, Header as IsTheHeader, Row as IsARow}

-- the header of a heading, in ticks that have its decimals and those of `least`
abbrev pub header_of : Scale → Heading → Header
header_of least h = record { columns = h.columns; scale = scale_of least h }

-- what contracts see of a reader: the lines that were begun, the bytes of a line that is not whole, the heading, once it was read,
-- the last row and how many were read, the refusal that it answered, and whether it came to its end
pub record Reader : Type 0 where
  pub limits : Limits
  pub least : Scale
  pub begun : ℕ
  pub line : List ℕ
  pub heading : Option Heading
  pub row : Row
  pub count : ℕ
  pub refusal : Option TraceRefusal
  pub ended : Bool

-- the line is blank, or not whole
abbrev pub IsBlankSoFar : Line → Type 0
IsBlankSoFar line = line.whole ≡ true → is_blank_line line ≡ true

-- what was read of the bytes so far: nothing where each whole line is blank, or else the header and the rows
abbrev pub HasRead : Option Heading → Scale → List ℕ → List Row → Type 0
HasRead None least bytes rows = All IsBlankSoFar (lines false bytes) × (rows ≡ [])
HasRead (Some h) least bytes rows = TraceOf bytes false least (header_of least h) rows

-- the rows have a value for each column of the heading, and rise
abbrev pub AreRising : Option Heading → List Row → Type 0
AreRising None rows = rows ≡ []
AreRising (Some h) rows = AreRowsSoFar (length h.columns) rows

-- the time of the last row
abbrev pub last_seen : List Row → Option ℕ
last_seen [] = None
last_seen (r ∷ rows) = Some (last_time r.time rows)

-- the faults of the lines from line n on, after this heading, once it was read, and these rows
abbrev pub FaultsOn : Limits → Scale → Option Heading → List Row → Bool → ℕ → List Line → TraceRefusal → Type 0
FaultsOn limits least None rows ended n = FaultFrom limits least ended n
FaultsOn limits least (Some h) rows ended n = FaultAfter limits (scale_of least h) h ended n (length rows) (last_seen rows)

-- the header, and the rows of further lines, after this heading
abbrev pub ReadsOn : Scale → Option Heading → List Line → Header → List Row → Type 0
ReadsOn least None more header rows = AreTraceLines least more header rows
ReadsOn least (Some h) more header rows = (header ≡ header_of least h) × AreRowLines (scale_of least h) h more rows

-- after these whole lines any further lines are read, and have their first fault, as after this heading and these rows
pub record GoesOn (limits : Limits) (least : Scale) (front : List Line) (heading : Option Heading) (rows : List Row) : Type 0 where
  pub faults : (ended : Bool) (more : List Line) (x : TraceRefusal) → FaultsOn limits least heading rows ended (suc (length front)) more x
      → FaultFrom limits least ended 1 (front ++ more) x
  pub only : (ended : Bool) (more : List Line) (x : TraceRefusal) → FaultFrom limits least ended 1 (front ++ more) x
      → FaultsOn limits least heading rows ended (suc (length front)) more x
  pub reads : (more : List Line) (header : Header) (later : List Row) → ReadsOn least heading more header later
      → AreTraceLines least (front ++ more) header (rows ++ later)
  pub blank : heading ≡ None → All (λ (l : Line). is_blank_line l ≡ true) front × (rows ≡ [])

-- the parts of the bytes: their whole lines, and the bytes of a line that is not whole
pub record HasTaken (r : Reader) (bytes : List ℕ) (rows : List Row) : Type 0 where
  pub front : List Line
  pub free : HasNoFeed r.line
  pub joins : (e : Bool) (more : List ℕ) → lines e (bytes ++ more) ≡ front ++ lines e (r.line ++ more)
  pub goes_on : GoesOn r.limits r.least front r.heading rows
  pub begun : r.begun ≡ length (lines false bytes)
  pub count : r.count ≡ length rows
  pub last : (before : List Row) (x : Row) → rows ≡ before ++ x ∷ [] → r.row ≡ x
  pub rising : AreRising r.heading rows
  pub range : AreInRange rows

-- the reader took these bytes, which have no fault so far, refused none and is not at their end; these are their rows
pub record StandsFor (r : Reader) (bytes : List ℕ) (rows : List Row) : Type 0 where
  pub read : HasRead r.heading r.least bytes rows
  pub sound : (x : TraceRefusal) → ¬ IsFirstFault bytes false r.limits r.least x
  pub taken : HasTaken r bytes rows
  pub open_end : (r.refusal ≡ None) × (r.ended ≡ false)

-- the refusal is the first fault of all bytes that begin with these
abbrev pub IsFaultOfAll : Limits → Scale → List ℕ → TraceRefusal → Type 0
IsFaultOfAll limits least bytes x = (more : List ℕ) (ended : Bool) → IsFirstFault (bytes ++ more) ended limits least x

-- the lines hold this heading, once it was read, and these rows
abbrev pub HoldLines : Option Heading → Scale → List Line → List Row → Type 0
HoldLines None least front rows = All (λ (l : Line). is_blank_line l ≡ true) front × (rows ≡ [])
HoldLines (Some h) least front rows = AreTraceLines least front (header_of least h) rows

-- the lines before line n hold this heading, once it was read, and these rows, whatever follows the bytes
abbrev pub HasReadBefore : ℕ → Option Heading → Scale → List ℕ → List Row → Type 0
HasReadBefore n heading least bytes rows = (more : List ℕ) (ended : Bool) → HoldLines heading least (take (n - 1) (lines ended (bytes ++ more))) rows

-- the last byte is an LF
pub data EndsWithFeed : List ℕ → Type 0 where
  feed : (before : List ℕ) → EndsWithFeed (before ++ 10 ∷ [])

-- what came: nothing new, or the header or a row, whose LF is the last byte that was taken
abbrev pub HasCome : Event → Reader → Reader → List ℕ → Type 0
HasCome Nothing old new taken = (new.heading ≡ old.heading) × (new.row ≡ old.row) × (new.count ≡ old.count)
HasCome IsTheHeader old new taken = (old.heading ≡ None) × IsSome new.heading × (new.row ≡ old.row) × (new.count ≡ old.count) × EndsWithFeed taken
HasCome IsARow old new taken = IsSome old.heading × (new.heading ≡ old.heading) × (0 < new.count) × EndsWithFeed taken

-- a row that came is one that a trace with this heading and these rows can take
abbrev pub IsNextRow : Event → Option Heading → List Row → Row → Type 0
IsNextRow IsARow (Some h) rows r = (length r.values ≡ length h.columns) × (0 < length rows → last_time 0 rows < r.time)
IsNextRow IsARow None rows r = ⊥
IsNextRow _ heading rows r = Unit {0}

-- the header, once it was read
abbrev pub header_read : Reader → Option Header
header_read r = option_map (header_of r.least) r.heading

-- the bytes, all of them, are those of the trace with the header that was read and these rows, and have no fault
abbrev pub IsWholeTrace : Reader → List ℕ → List Row → Type 0
IsWholeTrace r bytes rows =
    (h : Heading) × (r.heading ≡ Some h) × HasTrace bytes r.limits r.least (record { header = header_of r.least h; rows = rows })

-- the header of all bytes was read, which have no row
abbrev pub HasWholeHeader : Reader → List ℕ → Type 0
HasWholeHeader r bytes = (h : Heading) × (r.heading ≡ Some h) × TraceOf bytes true r.least (header_of r.least h) []

-- what an end comes to: a row, or nothing more
abbrev pub HasEndedWith : Event → Reader → Type 0
HasEndedWith IsARow r = IsSome r.heading × (0 < r.count)
HasEndedWith Nothing r = IsSome r.heading
HasEndedWith IsTheHeader r = ⊥
