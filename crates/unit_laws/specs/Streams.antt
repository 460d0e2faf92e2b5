-- The laws of units for the commands that answer row by row.
use Rattle.std.specs.Prelude.{◌≡◌, ℕ, ◌≤◌, Bool, List}
use Rattle.stl_syntax.specs.Trace.{Trace, IsTrace, AreInRange}
use Rattle.stl_syntax.specs.Formula.{Formula, root}
use Rattle.stl_syntax.specs.WellFormed.{IsWellFormed}
use Rattle.trace_reader.specs.TraceRefusals.{HasTrace}
use Rattle.trace_reader.specs.declared.refusal.Limits.{Limits}
use Rattle.trace_stream.specs.Streams.{Stream, verdicts, early, margins, StreamText}
use Rattle.unit_laws.specs.Units.{finer}
use Rattle.stl_syntax.specs.Scaling.{nodes_for}

-- what the stream owes for the rows of a trace, and for its end where the input has ended with them
abbrev pub Owes : Stream → Formula → Trace → Bool → List ℕ → Type 0
Owes s f tr ended text = StreamText s (root (nodes_for f tr)) tr.header tr.rows ended text

-- what the stream owes it owes in smaller ticks too
abbrev pub StreamIsKept : Stream → Type 0
StreamIsKept s =
    (f : Formula) (tr : Trace) (k m : ℕ) (ended : Bool) → IsTrace tr → f.scale.time ≤ tr.header.scale.time → f.scale.value ≤ tr.header.scale.value
    → (text : List ℕ) → Owes s f tr ended text → Owes s f (finer k m tr) ended text

-- each stream does
abbrev pub StreamsAreKept : Type 0
StreamsAreKept = (s : Stream) → StreamIsKept s

-- where the stream owes something in both ticks it is one text
abbrev pub StreamsOweOneText : Type 0
StreamsOweOneText =
    (s : Stream) (f : Formula) (tr : Trace) (k m : ℕ) (ended : Bool) → IsTrace tr → f.scale.time ≤ tr.header.scale.time
    → f.scale.value ≤ tr.header.scale.value
    → (text other : List ℕ) → Owes s f tr ended text → Owes s f (finer k m tr) ended other → text ≡ other

-- the texts that the stream owes for both traces are one
abbrev pub OwesAlike : Stream → Formula → Trace → Trace → Bool → Type 0
OwesAlike s f tr tr' ended = (text : List ℕ) → (Owes s f tr ended text → Owes s f tr' ended text) × (Owes s f tr' ended text → Owes s f tr ended text)

-- what the stream owes does not depend on the ticks
abbrev pub StreamIsOfUnits : Stream → Type 0
StreamIsOfUnits s =
    (f : Formula) (tr : Trace) (k m : ℕ) (ended : Bool) → IsTrace tr → f.scale.time ≤ tr.header.scale.time → f.scale.value ≤ tr.header.scale.value
    → OwesAlike s f tr (finer k m tr) ended

-- that of `early`, whose times are those of rows
abbrev pub EarlyIsOfUnits : Type 0
EarlyIsOfUnits = StreamIsOfUnits early

-- and that of `rwatch`, whose knots are any rationals
abbrev pub MarginsAreOfUnits : Type 0
MarginsAreOfUnits = StreamIsOfUnits margins

-- what `watch` owes for a formula and rows within the limits, whose spans have ends that are stored
abbrev pub WatchIsOfUnits : Type 0
WatchIsOfUnits =
    (f : Formula) (tr : Trace) (k m : ℕ) (ended : Bool) → IsWellFormed f → IsTrace tr → AreInRange tr.rows → f.scale.time ≤ tr.header.scale.time
    → f.scale.value ≤ tr.header.scale.value → OwesAlike verdicts f tr (finer k m tr) ended

-- and each stream for each trace that is read for the formula
abbrev pub ReadStreamsAreOfUnits : Formula → Type 0
ReadStreamsAreOfUnits f =
    (s : Stream) (bytes : List ℕ) (limits : Limits) (tr : Trace) (k m : ℕ) (ended : Bool) → HasTrace bytes limits f.scale tr
    → OwesAlike s f tr (finer k m tr) ended
