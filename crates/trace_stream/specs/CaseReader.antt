-- Reading the trace of a formula from a source.
use Rattle.std.specs.Prelude.{◌≡◌, ℕ, Bool, true, List, Option, Some, None}
use Rattle.stl_syntax.specs.Formula.{Formula}
use Rattle.stl_syntax.specs.Trace.{Row, Trace}
use Rattle.stl_syntax.specs.WellFormed.{IsScale}
use Rattle.trace_reader.specs.TraceText.{Heading, scale_of}
use Rattle.trace_reader.specs.TraceRefusals.{HasTrace}
use Rattle.trace_reader.specs.Reader.{Reader, StandsFor}
use Rattle.trace_reader.specs.declared.refusal.Limits.{Limits}
use Rattle.trace_reader.specs.declared.refusal.TraceRefusal.{TraceRefusal}
use Rattle.trace_reader.specs.declared.refusal.TraceKind.TheVariants.{NoRows}
use Rattle.trace_reader.specs.InputFaults.{Fault, IsInputFault}
use Rattle.trace_stream.specs.Cases.{IsFault, IsCase, IsHeaderOf, IsLacking, IsNoBegin}
use Rattle.trace_stream.specs.declared.case.Case.{Case}
use Rattle.trace_stream.specs.declared.fault.TraceFault.TheVariants.{Trace as InTrace}
use Rattle.trace_stream.specs.declared.fault.StreamStop.{StreamStop}
use Rattle.trace_stream.specs.declared.fault.StreamStop.TheVariants.{Fault as Faulty, NoMemory, Wide}

-- the bytes, which the input may have ended, have no fault for the formula
abbrev pub IsSound : Limits → Formula → List ℕ → Bool → Type 0
IsSound limits f bytes ended = (x : Fault) → ¬ IsInputFault limits f bytes ended x

-- the bytes, all of them, are those of the trace, and have no fault for the formula
pub record IsWhole (limits : Limits) (f : Formula) (bytes : List ℕ) (tr : Trace) : Type 0 where
  pub trace : HasTrace bytes limits f.scale tr
  pub sound : IsSound limits f bytes true

-- these bytes were handed over, and may have ended; a trace was not made of them for this reason
abbrev pub IsRefused : Limits → Formula → Bool → List ℕ → StreamStop → Type 0
IsRefused limits f ended bytes (Faulty fault) = (x : Fault) × IsFault f fault x × IsInputFault limits f bytes ended x
IsRefused limits f ended bytes NoMemory = Unit {0}
IsRefused limits f ended bytes (Wide i den) = ⊥

-- once the header was read, there is a case of it with the rows
abbrev pub HasCase : Formula → Option Heading → List ℕ → List Row → Option Case → Type 0
HasCase f None bytes rows case = case ≡ None
HasCase f (Some h) bytes rows None = ⊥
HasCase f (Some h) bytes rows (Some c) = IsCase f c × (c.trace.rows ≡ rows) × IsHeaderOf f bytes c.trace.header

-- the reader took these bytes, and this is what was kept of them
pub record IsKept (f : Formula) (reader : Reader) (case : Option Case) (bytes : List ℕ) : Type 0 where
  pub rows : List Row
  pub ticks : IsScale f.scale
  pub least : reader.least ≡ f.scale
  pub stands : StandsFor reader bytes rows
  pub has_case : HasCase f reader.heading bytes rows case

-- the header that a reader has read, in ticks of at most six digits
pub record HasHeader (f : Formula) (reader : Reader) : Type 0 where
  pub heading : Heading
  pub read : reader.heading ≡ Some heading
  pub least : reader.least ≡ f.scale
  pub ticks : IsScale (scale_of f.scale heading)

-- the first fault of all bytes, where the reader ended with this one: what a header without rows lacks comes before it
pub data IsLastFault {T : Type 0} (f : Formula) (reader : Reader) (case : Option T) (r : TraceRefusal) : StreamStop → Type 0 where
  of_header : {stop : StreamStop} (h : Heading) → case ≡ None → r.kind ≡ NoRows → reader.heading ≡ Some h
      → IsNoBegin f r.line h stop → IsLastFault f reader case r stop
  own : (case ≡ None → r.kind ≡ NoRows → (h : Heading) → reader.heading ≡ Some h → (x : Fault) → ¬ IsLacking f r.line h x)
      → IsLastFault f reader case r (Faulty (InTrace r))

-- the bytes, all of them, are those of the case's trace
pub record IsEnded (limits : Limits) (f : Formula) (bytes : List ℕ) (c : Case) : Type 0 where
  pub whole : IsWhole limits f bytes c.trace
  pub case : IsCase f c
