-- When a watch stands for bytes that were pushed, and what its calls answer.
use Rattle.std.specs.Prelude.{◌≡◌, ◌≢◌, ℕ, Bool, true, false, List, [], ◌++◌, Option, Result, Ok, Err, MatchBool}
use Rattle.std.specs.Io.KnownBytes.{Appends}
use Rattle.stl_syntax.specs.Formula.{Formula, root}
use Rattle.stl_syntax.specs.Trace.{Trace}
use Rattle.stl_syntax.specs.Stream.{IsStreamText}
use Rattle.stl_syntax.specs.declared.scale.UnitFault.TheVariants as unit_fault
use Rattle.trace_reader.specs.declared.refusal.Limits.{Limits}
use Rattle.trace_stream.specs.Streams.{HoldsAtStart, verdicts}
use Rattle.trace_stream.specs.Cases.{IsNamed}
use Rattle.trace_reader.specs.InputFaults.{Fault, of_trace, unknown, unit, IsInputFault}
use Rattle.trace_stream.specs.CaseReader.{IsSound, IsWhole}
use Rattle.trace_stream.specs.Following.{IsTextOf, IsLive, IsOver}
pub use Rattle.verdict_stream.specs.Watching.{WatchesRows, WatchesEnd}
use Rattle.trace_stream.specs.declared.fault.TraceFault.TheVariants as trace_fault
use Rattle.trace_stream.specs.declared.fault.StreamStop.TheVariants as stop
use Rattle.written_streams.specs.declared.made.Halt.{Halt}
use Rattle.written_streams.specs.declared.made.Halt.TheVariants.{Reader, Unwritten}
use Rattle.trace_stream.specs.declared.live.Live.{Live}
use Rattle.verdict_stream.specs.declared.verdicts.Verdicts.{Verdicts}
use Rattle.written_streams.specs.declared.watch.Phase.{Phase}
use Rattle.written_streams.specs.declared.watch.Phase.TheVariants.{Reading, Stopped, Ended}
use Rattle.written_streams.specs.declared.watch.WatchFault.{WatchFault}
use Rattle.written_streams.specs.declared.watch.WatchFault.TheVariants as fault
use Rattle.stl_syntax.specs.Scaling.{nodes_for}

-- what a watch keeps: the reader with what follows its rows, and how far it has come
pub record Watched : Type 0 where
  pub live : Live Verdicts
  pub phase : Phase

-- what a watch went through: its formula and limits, the bytes that were pushed, and the text that was written for them
pub record Past : Type 0 where
  pub formula : Formula
  pub limits : Limits
  pub bytes : List ℕ
  pub text : List ℕ

-- with more bytes
abbrev pub with_piece : Past → List ℕ → Past
with_piece p piece = record p { bytes = p.bytes ++ piece }

-- with more text
abbrev pub with_text : Past → List ℕ → Past
with_text p grown = record p { text = p.text ++ grown }

-- the text is that of the rows before the first fault of the bytes, with its end where there is none and the input has ended
abbrev pub IsText : Past → Bool → Type 0
IsText p ended = IsTextOf verdicts p.limits p.formula p.bytes ended p.text

-- neither a fault nor the end came: the watch stands for the bytes, and all its text was written
pub record StandsFor (p : Past) (w : Watched) : Type 0 where
  pub phase : w.phase ≡ Reading
  pub formula : w.live.formula ≡ p.formula
  pub limits : w.live.rows.limits ≡ p.limits
  pub empty : w.live.text ≡ []
  pub live : IsLive WatchesRows verdicts w.live p.bytes p.text

-- a watch that goes on stands for some past
abbrev pub HasPast : Watched → Type 0
HasPast w = w.phase ≡ Reading → (p : Past) × StandsFor p w

-- the end came: the watch stands for the bytes and their end, and this is the truth at the start
pub record StandsForAll (p : Past) (holds : Bool) (w : Watched) : Type 0 where
  pub phase : w.phase ≡ Ended
  pub formula : w.live.formula ≡ p.formula
  pub over : IsOver WatchesEnd verdicts p.limits p.formula w.live p.bytes p.text holds

-- what was written is the stream text of the whole lines pushed so far, which have no fault
pub record HasPushed (p : Past) (w : Watched) : Type 0 where
  pub stands : StandsFor p w
  pub text : IsText p false
  pub sound : IsSound p.limits p.formula p.bytes false

-- the bytes are those of a trace; what was written is its whole stream text, and this is the truth at its start
pub record HasFinished (p : Past) (holds : Bool) (w : Watched) : Type 0 where
  pub stands : StandsForAll p holds w
  pub tr : Trace
  pub trace : IsWhole p.limits p.formula p.bytes tr
  pub written : IsStreamText (root (nodes_for p.formula tr)) tr.header tr.rows true p.text
  pub truth : MatchBool holds (HoldsAtStart p.formula tr) (¬ HoldsAtStart p.formula tr)

-- the bytes have this first fault, and what was written is the stream text of the rows before it
abbrev pub HasFault : Past → Bool → Fault → Type 0
HasFault p ended x = IsInputFault p.limits p.formula p.bytes ended x × IsText p ended

-- why a call stopped that wrote this: the bytes have a fault; or what was written lacks something; or it wrote nothing
abbrev pub IsWatchFault : Past → Bool → List ℕ → WatchFault → Type 0
IsWatchFault p ended grown (fault.Trace r) = HasFault p ended (of_trace r)
IsWatchFault p ended grown (fault.Unknown line atom term) = (name : List ℕ) × IsNamed p.formula atom term name × HasFault p ended (unknown line atom term name)
IsWatchFault p ended grown (fault.UnitConstant line node) = HasFault p ended (unit line (unit_fault.Constant node))
IsWatchFault p ended grown (fault.UnitReach line sum) = HasFault p ended (unit line (unit_fault.Reach sum))
IsWatchFault p ended grown fault.Write = (rest : List ℕ) × (rest ≢ []) × IsText (with_text p rest) ended
IsWatchFault p ended grown fault.Memory = grown ≡ []
IsWatchFault p ended grown fault.Stopped = ⊥
IsWatchFault p ended grown fault.Ended = ⊥

-- what a call came to: the text grew, and all is well or it stopped
abbrev pub IsCall : {T : Type 0} → Option (List ℕ) → Option (List ℕ) → Past → Bool → (T → Past → Type 0) → Result T WatchFault → Type 0
IsCall held held_after p ended Fine (Ok x) = (grown : List ℕ) × Appends held held_after grown × Fine x (with_text p grown)
IsCall held held_after p ended Fine (Err e) = (grown : List ℕ) × Appends held held_after grown × IsWatchFault (with_text p grown) ended grown e

-- the phase in which a call is answered so, and the one that it leaves; nothing changes where an earlier call stopped, or the end came
abbrev pub Moves : {T : Type 0} → Phase → Watched → Watched → Result T WatchFault → Type 0
Moves next old new (Ok x) = (old.phase ≡ Reading) × (new.phase ≡ next)
Moves next old new (Err fault.Stopped) = (old.phase ≡ Stopped) × (new ≡ old)
Moves next old new (Err fault.Ended) = (old.phase ≡ Ended) × (new ≡ old)
Moves next old new (Err e) = (old.phase ≡ Reading) × (new.phase ≡ Stopped)

-- an earlier call stopped, or the end came
abbrev pub IsLate : {T : Type 0} → Result T WatchFault → Type 0
IsLate (Ok x) = ⊥
IsLate (Err fault.Stopped) = Unit {0}
IsLate (Err fault.Ended) = Unit {0}
IsLate (Err e) = ⊥

-- whether a phase takes a call
abbrev pub IsOpen : Phase → Result (Unit {0}) WatchFault → Type 0
IsOpen phase (Ok x) = phase ≡ Reading
IsOpen phase (Err fault.Stopped) = phase ≡ Stopped
IsOpen phase (Err fault.Ended) = phase ≡ Ended
IsOpen phase (Err e) = ⊥

-- the fault that a reason to stop is
abbrev pub IsFaultOf : Halt → WatchFault → Type 0
IsFaultOf (Reader (stop.Fault (trace_fault.Trace r))) x = x ≡ fault.Trace r
IsFaultOf (Reader (stop.Fault (trace_fault.Unknown line atom term))) x = x ≡ fault.Unknown line atom term
IsFaultOf (Reader (stop.Fault (trace_fault.Unit line (unit_fault.Constant node)))) x = x ≡ fault.UnitConstant line node
IsFaultOf (Reader (stop.Fault (trace_fault.Unit line (unit_fault.Reach sum)))) x = x ≡ fault.UnitReach line sum
IsFaultOf (Reader (stop.Fault (trace_fault.Unit line unit_fault.Memory))) x = ⊥
IsFaultOf (Reader stop.NoMemory) x = x ≡ fault.Memory
IsFaultOf (Reader (stop.Wide i den)) x = ⊥
IsFaultOf Unwritten x = x ≡ fault.Write
