-- The first fault of a trace's bytes for a formula: of the trace, of a column that the header lacks, or of its ticks.
use Rattle.std.specs.Prelude.{◌≡◌, ℕ, suc, ◌-◌, Bool, true, false, List, [], ◌∷◌, take, Option, Some, None}
use Rattle.stl_syntax.specs.Choice.{◌or_else◌}
use Rattle.stl_syntax.specs.Formula.{Formula}
use Rattle.trace_reader.specs.TraceText.{Line, lines, is_blank_line, fields, Heading, IsHeading, scale_of, AreTraceLines}
use Rattle.stl_syntax.specs.Trace.{Header, Row}
use Rattle.trace_reader.specs.TraceRefusals.{FaultFrom, IsFirstFault}
use Rattle.stl_syntax.specs.Binding.{IsUnknown, IsUnitFault}
use Rattle.trace_reader.specs.declared.refusal.Limits.{Limits}
use Rattle.trace_reader.specs.declared.refusal.TraceRefusal.{TraceRefusal}
use Rattle.stl_syntax.specs.declared.scale.UnitFault.{UnitFault}

-- the limits of the commands that hold the whole trace
abbrev pub whole_limits : Limits
whole_limits = record { rows = 1000000; lines = 8589934592 }

-- the limits of a stream
abbrev pub stream_limits : Limits
stream_limits = record { rows = 4294967296; lines = 8589934592 }

-- line n is the header
pub data IsHeaderAt : List Line → ℕ → Heading → Type 0 where
  here : {line : Line} {more : List Line} {h : Heading} → line.whole ≡ true → is_blank_line line ≡ false
      → IsHeading (fields line) h → IsHeaderAt (line ∷ more) 1 h
  later : {line : Line} {more : List Line} {n : ℕ} {h : Heading} → line.whole ≡ true → is_blank_line line ≡ true → IsHeaderAt more n h
      → IsHeaderAt (line ∷ more) (suc n) h

-- a fault of the trace, an unknown column, or numbers that do not fit its ticks, with the line
pub data Fault : Type 0 where
  of_trace : TraceRefusal → Fault
  unknown : (line atom term : ℕ) (name : List ℕ) → Fault
  unit : ℕ → UnitFault → Fault

-- the line of a fault
abbrev pub line_of : Fault → ℕ
line_of (of_trace r) = r.line
line_of (unknown n atom term name) = n
line_of (unit n fault) = n

-- the header in line n lacks a column of the formula
abbrev pub IsUnknownIn : Formula → ℕ → Heading → Fault → Type 0
IsUnknownIn f n h x = (atom term : ℕ) × (name : List ℕ) × IsUnknown h.columns f atom term name × (x ≡ unknown n atom term name)

-- the formula's numbers do not fit the header in line n
abbrev pub IsUnitIn : Formula → ℕ → Heading → Fault → Type 0
IsUnitIn f n h x = (fault : UnitFault) × IsUnitFault f (scale_of f.scale h) fault × (x ≡ unit n fault)

-- a fault of the header for the formula, where the lines up to it have none of their own
abbrev pub IsLack : Limits → Formula → List ℕ → Bool → Fault → Type 0
IsLack limits f bytes ended x =
    (n : ℕ) × (h : Heading) × IsHeaderAt (lines ended bytes) n h × (IsUnknownIn f n h or_else IsUnitIn f n h) x
    × ((r : TraceRefusal) → ¬ FaultFrom limits f.scale false 1 (take n (lines ended bytes)) r)

-- the first fault of the trace itself
abbrev pub IsTraceFault : Limits → Formula → List ℕ → Bool → Fault → Type 0
IsTraceFault limits f bytes ended x = (r : TraceRefusal) × IsFirstFault bytes ended limits f.scale r × (x ≡ of_trace r)

-- the first fault of the bytes
abbrev pub IsInputFault : Limits → Formula → List ℕ → Bool → Fault → Type 0
IsInputFault limits f bytes ended = IsLack limits f bytes ended or_else IsTraceFault limits f bytes ended

-- the header, once it was read, and the rows of the bytes before their first fault; `whole` where the input has ended and there is none
pub data AreRowsBefore (limits : Limits) (f : Formula) (bytes : List ℕ) (ended : Bool) : Option Header → List Row → Bool → Type 0 where
  sound : {header : Header} {rows : List Row} → ((x : Fault) → ¬ IsInputFault limits f bytes ended x)
      → AreTraceLines f.scale (lines ended bytes) header rows → AreRowsBefore limits f bytes ended (Some header) rows ended
  no_header_yet : ((x : Fault) → ¬ IsInputFault limits f bytes ended x) → ((n : ℕ) (h : Heading) → ¬ IsHeaderAt (lines ended bytes) n h)
      → AreRowsBefore limits f bytes ended None [] ended
  faulted : {header : Header} {rows : List Row} (x : Fault) → IsInputFault limits f bytes ended x
      → AreTraceLines f.scale (take (line_of x - 1) (lines ended bytes)) header rows → AreRowsBefore limits f bytes ended (Some header) rows false
  faulted_header : (x : Fault) → IsInputFault limits f bytes ended x
      → ((n : ℕ) (h : Heading) → ¬ IsHeaderAt (take (line_of x - 1) (lines ended bytes)) n h) → AreRowsBefore limits f bytes ended None [] false
