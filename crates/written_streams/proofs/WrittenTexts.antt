-- What writing the text that was made comes to.
use Rattle.std.proofs.Common.{◌≡◌, ◌≢◌, ℕ, List, sym, subst, Option, Result, Ok, Err}
use Rattle.std.proofs.KnownBytes.{Appends-nil}
use Rattle.trace_stream.specs.declared.fault.StreamStop.{StreamStop}
use Rattle.trace_stream.specs.declared.fault.StreamStop.TheVariants.{NoMemory}
use Rattle.written_streams.specs.MadeWritten.{IsMadeWritten, outcome_of, no_room}
use Rattle.written_streams.specs.declared.made.Halt.TheVariants.{Reader, Unwritten}

-- where memory was wanting nothing is written
pub starved_made : {T : Type 0} (held : Option (List ℕ)) (text : List ℕ) (outcome : Result T StreamStop) → outcome ≡ Err NoMemory
    → IsMadeWritten held held text outcome (Err (Reader NoMemory))
starved_made {T} held text outcome e =
    subst (λ (r : Result T StreamStop). IsMadeWritten held held text r (Err (Reader NoMemory))) (sym e) (no_room (Appends-nil held))

-- the reason of a reader is no fault of a sink
pub not_unwritten : {T : Type 0} (outcome : Result T StreamStop) → outcome_of outcome ≢ Err Unwritten
not_unwritten (Ok x) e = let k = e in cc
not_unwritten (Err stop) e = let k = e in cc
