-- What a run ends with that nothing disturbs: words with a formula and all bytes of a trace for it, and devices that do not fail.
use Rattle.std.specs.Prelude.{◌≡◌, ◌⊎◌, ℕ, ◌≤◌, Bool, true, List, [], ◌++◌, Some}
use Rattle.std.specs.Io.KnownBytes.{Appends}
use Rattle.io_edge.specs.Calls.{Drained, Filled, HasFailed, HasRefused}
use Rattle.report.specs.Report.{check, robust, explain, json, table}
use Rattle.trace_reader.specs.TraceText.{lines}
use Rattle.workbench.specs.Requests.{verdicts, early, margins, Request, whole, stream, sessions, generated, has_input}
use Rattle.workbench.specs.InputFaults.{whole_limits}
use Rattle.workbench.specs.Owed.{limits_of}
use Rattle.workbench.specs.Sessions.{InputFault, FaultOfInput}
use Rattle.trace_stream.specs.CaseReader.{IsSound}
use Rattle.workbench.specs.Ended.{IsAnswered, IsWide, IsOverfull}

-- the bytes have no fault for the request: for one of a trace they are those of one with the formula's columns, in ticks that hold its
-- numbers; for one of several sessions no line of the input has a fault of its own
abbrev pub AreFit : Request → List ℕ → Type 0
AreFit (whole c f) bytes = IsSound whole_limits f bytes true
AreFit (stream s f) bytes = IsSound (limits_of s) f bytes true
AreFit (sessions f) bytes = (x : InputFault) → ¬ FaultOfInput 1 [] (lines true bytes) x
AreFit (generated number rows) bytes = Unit {0}
AreFit request bytes = ⊥

-- the source holds these bytes where it is read, they are fit, and no device fails
pub record IsUndisturbed (request : Request) (i : Drained) (o : Filled) (bytes : List ℕ) : Type 0 where
  pub held : has_input request ≡ true → i.before ≡ Some bytes
  pub fit : AreFit request bytes
  pub source_works : ¬ HasFailed i
  pub sink_works : ¬ HasRefused o

-- how it ends: with the request's answer to all bytes and the whole text; with a margin that needs too large a denominator, maybe before the
-- end; with too many cells; or for want of memory
pub data IsComplete (request : Request) (bytes text : List ℕ) : ℕ → Type 0 where
  answered : {status : ℕ} → IsAnswered request bytes true status text → IsComplete request bytes text status
  wide : (seen later : List ℕ) (ended : Bool) (i den : ℕ) → bytes ≡ seen ++ later → (ended ≡ true → later ≡ []) → IsWide request seen ended i den text
      → IsComplete request bytes text 8
  overfull : (count : ℕ) → IsOverfull request bytes true count → text ≡ [] → IsComplete request bytes text 9
  no_memory : IsComplete request bytes text 7

-- the statuses that are the command's own
abbrev pub IsOwnStatus : Request → ℕ → Type 0
IsOwnStatus (whole check f) status = (status ≤ 1) ⊎ (status ≡ 7)
IsOwnStatus (whole robust f) status = (status ≡ 0) ⊎ (status ≡ 7) ⊎ (status ≡ 8)
IsOwnStatus (whole explain f) status = (status ≤ 1) ⊎ (status ≡ 7) ⊎ (status ≡ 9)
IsOwnStatus (whole json f) status = (status ≤ 1) ⊎ (status ≡ 7) ⊎ (status ≡ 8) ⊎ (status ≡ 9)
IsOwnStatus (whole table f) status = (status ≡ 0) ⊎ (status ≡ 7) ⊎ (status ≡ 8)
IsOwnStatus (stream verdicts f) status = (status ≤ 1) ⊎ (status ≡ 7)
IsOwnStatus (stream early f) status = (status ≤ 1) ⊎ (status ≡ 7)
IsOwnStatus (stream margins f) status = (status ≡ 0) ⊎ (status ≡ 7) ⊎ (status ≡ 8)
IsOwnStatus (sessions f) status = (status ≡ 0) ⊎ (status ≡ 7)
IsOwnStatus (generated number rows) status = (status ≡ 0) ⊎ (status ≡ 7)
IsOwnStatus request status = ⊥

-- so it is of a run, with what it wrote
pub record IsCompleteRun (request : Request) (o : Filled) (bytes : List ℕ) (status : ℕ) : Type 0 where
  pub text : List ℕ
  pub grew : Appends o.before o.after text
  pub own : IsOwnStatus request status
  pub is : IsComplete request bytes text status
