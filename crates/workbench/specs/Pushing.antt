-- A stream: what stands after each piece, and how it ends.
use Rattle.std.specs.Prelude.{◌≡◌, ◌≢◌, ◌⊎◌, ℕ, ◌<◌, Bool, true, false, List, [], ◌++◌, length, Option, Result, Ok, Err, OnOk}
use Rattle.std.specs.Io.KnownBytes.{Appends, Consumes, IsAtEnd}
use Rattle.io_edge.specs.Calls.{Drained, Filled}
use Rattle.stl_syntax.specs.Formula.{Formula}
use Rattle.workbench.specs.Requests.{Request, stream, sessions, has_input}
use Rattle.workbench.specs.Owed.{Owes}
use Rattle.workbench.specs.Ended.{HasFault, IsAnswered, IsWide}
use Rattle.workbench.specs.Running.{IsBegun, KeepsPace, IsEnd}
use Rattle.trace_stream.specs.Cases.{IsFault}
use Rattle.session_mux.specs.Taking.{fault_of}
use Rattle.workbench.specs.InputFaults.{Fault, fault_text}
use Rattle.workbench.specs.Sessions.{input_fault_text}
use Rattle.workbench.specs.Wholes.{status_of, status_of_truth}
use Rattle.trace_stream.specs.declared.fault.TraceFault.{TraceFault}
use Rattle.workbench.specs.declared.fault.Stop.{Stop}
use Rattle.workbench.specs.declared.fault.Stop.TheVariants.{Fault as Faulty, Input as FaultyLine, Unread, Unwritten, NoMemory, Wide, TooMany}
use Rattle.command_line.specs.ErrTexts.{out_of_memory, read_fault, write_fault, wide_text, too_many_cells_text}

-- these bytes were pushed, and this text was written: all that is owed for them
pub record IsPushed (Stands : List ℕ → List ℕ → Type 0) (request : Request) (bytes text : List ℕ) : Type 0 where
  pub input : has_input request ≡ true
  pub stands : Stands bytes text
  pub owed : Owes request bytes false text
  pub sound : (line : List ℕ) → ¬ HasFault request bytes false line
  pub few : length bytes < 9223372036854775808

-- the request is answered as its bytes come, by this formula
abbrev pub IsStreamedFor : Request → Formula → Type 0
IsStreamedFor (stream s f) g = g ≡ f
IsStreamedFor (sessions f) g = g ≡ f
IsStreamedFor request g = ⊥

-- the stored fault of a trace for the request's formula is said by this line
abbrev pub IsFaultLineOf : Request → TraceFault → List ℕ → Type 0
IsFaultLineOf (stream s f) fault line = (x : Fault) × IsFault f fault x × (line ≡ fault_text x)
IsFaultLineOf request fault line = ⊥

-- why no more was pushed of these bytes, of which this text was written
abbrev pub IsPushStop : Request → List ℕ → Bool → List ℕ → Stop → Type 0
IsPushStop request bytes ended text (Faulty fault) =
    (line : List ℕ) × IsFaultLineOf request fault line × HasFault request bytes ended line × Owes request bytes ended text
IsPushStop request bytes ended text (FaultyLine fault) = HasFault request bytes ended (input_fault_text (fault_of fault)) × Owes request bytes ended text
IsPushStop request bytes ended text Unread = ⊥
IsPushStop request bytes ended text Unwritten = (rest : List ℕ) × (rest ≢ []) × IsBegun request bytes ended text rest
IsPushStop request bytes ended text NoMemory = (text ≡ []) ⊎ ((rest : List ℕ) × IsBegun request bytes ended text rest)
IsPushStop request bytes ended text (Wide i den) = IsWide request bytes ended i den text
IsPushStop request bytes ended text (TooMany count) = ⊥

-- what a piece came to: the text grew, and all is well or it stopped
abbrev pub IsPush : {T : Type 0} → Request → Option (List ℕ) → Option (List ℕ) → List ℕ → Bool → List ℕ → (T → List ℕ → Type 0) → Result T Stop → Type 0
IsPush request held held_after bytes ended text Fine (Ok x) = (grown : List ℕ) × Appends held held_after grown × Fine x (text ++ grown)
IsPush request held held_after bytes ended text Fine (Err stop) =
    (grown : List ℕ) × Appends held held_after grown × IsPushStop request bytes ended (text ++ grown) stop

-- all bytes were answered, and what pushed them stands for them and their end
abbrev pub IsFinished : (List ℕ → List ℕ → Type 0) → Request → List ℕ → Bool → List ℕ → Type 0
IsFinished Done request bytes holds text = IsAnswered request bytes true (status_of_truth holds) text × Done bytes text

-- the line of an ending
abbrev pub IsLineOf : Request → Result Bool Stop → List ℕ → Type 0
IsLineOf request (Ok holds) line = line ≡ []
IsLineOf request (Err (Faulty fault)) line = IsFaultLineOf request fault line
IsLineOf request (Err (FaultyLine fault)) line = line ≡ input_fault_text (fault_of fault)
IsLineOf request (Err Unread) line = line ≡ read_fault
IsLineOf request (Err Unwritten) line = line ≡ write_fault
IsLineOf request (Err NoMemory) line = line ≡ out_of_memory
IsLineOf request (Err (Wide i den)) line = line ≡ wide_text i den
IsLineOf request (Err (TooMany count)) line = line ≡ too_many_cells_text count

-- how a stream ends; what pushed it stands for all bytes and their end, where they were answered
pub record IsStreamEnd (Done : List ℕ → List ℕ → Type 0) (request : Request) (i : Drained) (o : Filled) (result : Result Bool Stop) : Type 0 where
  pub bytes : List ℕ
  pub text : List ℕ
  pub line : List ℕ
  pub moved : Consumes i.before i.after bytes
  pub grew : Appends o.before o.after text
  pub at_end : i.ended ≡ true → IsAtEnd i.after
  pub pace : KeepsPace request i bytes text
  pub is : IsEnd request i o bytes text (status_of result) line
  pub is_line : IsLineOf request result line
  pub left : OnOk result (Done bytes text)
