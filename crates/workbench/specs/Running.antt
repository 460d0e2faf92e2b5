-- How a run ends.
use Rattle.std.specs.Prelude.{◌≡◌, ◌≢◌, ◌⊎◌, ℕ, ◌-◌, Bool, true, false, List, [], ◌++◌, length, take}
use Rattle.std.specs.Io.KnownBytes.{Appends, Consumes, IsAtEnd}
use Rattle.io_edge.specs.Causes.{next_count}
use Rattle.io_edge.specs.Calls.{Drained, Filled, HasFailed, HasRefused, IsAskedOnce, HasAskedAtMost}
use Rattle.workbench.specs.Requests.{Request, no_form, stream, margins, Asks, AreNone, has_input, is_streamed}
use Rattle.workbench.specs.Owed.{Owes}
use Rattle.workbench.specs.Ended.{HasFault, IsWide, EndsWith}
use Rattle.command_line.specs.ErrTexts.{out_of_memory, read_fault, write_fault}
use Rattle.command_line.specs.Saying.{IsSaid}

-- the text is owed for the bytes; or, of a stream of margins, it comes before a refusal for a denominator
abbrev pub IsDue : Request → List ℕ → Bool → List ℕ → Type 0
IsDue (stream margins f) bytes ended text = Owes (stream margins f) bytes ended text ⊎ ((i den : ℕ) × IsWide (stream margins f) bytes ended i den text)
IsDue request bytes ended text = Owes request bytes ended text

-- the text with this rest is due for the bytes that were answered, which are the first of those that were read
pub record IsBegun (request : Request) (bytes : List ℕ) (ended : Bool) (text rest : List ℕ) : Type 0 where
  pub seen : List ℕ
  pub later : List ℕ
  pub parts : bytes ≡ seen ++ later
  pub seen_end : Bool
  pub at_end : seen_end ≡ true → (ended ≡ true) × (later ≡ [])
  pub owed : IsDue request seen seen_end (text ++ rest)

-- all bytes but those that the last read gave
abbrev pub earlier : Drained → List ℕ → List ℕ
earlier i bytes = take (length bytes - i.gave) bytes

-- a stream keeps pace with its source: before the last read all that is owed for the bytes until then was written, and they have no fault; and
-- no read asked for more than 4,096 bytes
pub record KeepsPace (request : Request) (i : Drained) (bytes text : List ℕ) : Type 0 where
  pub short : List ℕ
  pub more : List ℕ
  pub owed : Owes request (earlier i bytes) false short
  pub parts : text ≡ short ++ more
  pub sound : (line : List ℕ) → ¬ HasFault request (earlier i bytes) false line
  pub small : HasAskedAtMost 4096 i

-- how a request ends: what was read, what was written, the status and the line
pub data IsEnd (request : Request) (i : Drained) (o : Filled) (bytes text : List ℕ) : ℕ → List ℕ → Type 0 where
  by_itself : {status : ℕ} {line : List ℕ} → EndsWith bytes i.ended request status line text → IsEnd request i o bytes text status line
  unread : has_input request ≡ true → i.ended ≡ false → HasFailed i → ((line : List ℕ) → ¬ HasFault request bytes false line) → Owes request bytes false text
      → IsEnd request i o bytes text 5 read_fault
  unwritten : (rest : List ℕ) → rest ≢ [] → HasRefused o → IsBegun request bytes i.ended text rest
      → IsEnd request i o bytes text 6 write_fault
  no_memory : request ≢ no_form → (text ≡ []) ⊎ ((rest : List ℕ) × IsBegun request bytes i.ended text rest)
      → IsEnd request i o bytes text 7 out_of_memory

-- nothing is left where the source said its end, which it was asked for once, and never where it did not
pub record IsReadOut (i : Drained) : Type 0 where
  pub none_left : i.ended ≡ true → IsAtEnd i.after
  pub once : IsAskedOnce i

-- the source said its end, which it was asked for once
abbrev pub HasSaidItsEnd : Drained → Type 0
HasSaidItsEnd i = (i.ended ≡ true) × (i.ends_after ≡ next_count i.ends)

-- how words end: what they ask for ends, or memory was wanting before that was known
pub data HasEnded (words : List (List ℕ)) (i : Drained) (o : Filled) (bytes : List ℕ) : List ℕ → ℕ → List ℕ → Type 0 where
  asked : {text : List ℕ} {status : ℕ} {line : List ℕ} (request : Request) → Asks words request
      → (has_input request ≡ false → bytes ≡ []) → (status ≢ 7 → has_input request ≡ true → IsReadOut i)
      → (is_streamed request ≡ true → KeepsPace request i bytes text) → IsEnd request i o bytes text status line → HasEnded words i o bytes text status line
  unknown : (¬ AreNone words) → bytes ≡ [] → HasEnded words i o bytes [] 7 out_of_memory

-- the run: these bytes were taken from the front of the input, this text was put at the end of the output, and this line on the
-- error stream, or where that failed a part of it
pub record IsRun (words : List (List ℕ)) (i : Drained) (o e : Filled) (status : ℕ) : Type 0 where
  pub bytes : List ℕ
  pub text : List ℕ
  pub line : List ℕ
  pub moved : Consumes i.before i.after bytes
  pub grew : Appends o.before o.after text
  pub said : IsSaid e.before e.after e.faults e.faults_after line
  pub ended : HasEnded words i o bytes text status line

-- the last parameter, where K is what it holds and Holds says that it holds what stands for the bytes of a request, all of them
module _ (K : Type 0) (Holds : Request → List ℕ → K → Type 0) (keeps : Request → Bool) where
  -- it is left after an answer of a stream, and else as it was
  abbrev pub IsKeptRightly : Request → List ℕ → ℕ → K → K → Type 0
  IsKeptRightly request bytes status old new =
      ((keeps request ≡ true) × ((status ≡ 0) ⊎ (status ≡ 1)) × Holds request bytes new)
      ⊎ (((keeps request ≡ false) ⊎ ((status ≢ 0) × (status ≢ 1))) × (new ≡ old))
