-- Reading the trace of a formula from a source.
use Rattle.std.specs.Prelude.{◌≡◌, ℕ, ◌≤◌, Bool, true, false, List, [], ◌++◌, length, Option}
use Rattle.std.specs.Io.KnownBytes.{Consumes, IsAtEnd}
use Rattle.stl_syntax.specs.Formula.{Formula}
use Rattle.trace_reader.specs.declared.refusal.Limits.{Limits}
use Rattle.trace_stream.specs.Cases.{IsFault, IsCase}
use Rattle.trace_stream.specs.CaseReader.{IsSound, IsWhole}
use Rattle.trace_stream.specs.declared.case.Case.{Case}
use Rattle.trace_reader.specs.InputFaults.{Fault, IsInputFault}
use Rattle.whole_answers.specs.declared.no_answer.NoAnswer.{NoAnswer}
use Rattle.whole_answers.specs.declared.no_answer.NoAnswer.TheVariants.{Fault as Faulty, Unread, NoMemory, Wide, TooMany}

-- these bytes were read, and they are all where the source came to its end
pub record IsRead (before after : Option (List ℕ)) (ended : Bool) (bytes : List ℕ) : Type 0 where
  pub moved : Consumes before after bytes
  pub all : ended ≡ true → IsAtEnd after

-- the source came to its end, and its bytes are those of the trace
pub record IsReadWhole (limits : Limits) (f : Formula) (before after : Option (List ℕ)) (ended : Bool) (c : Case) : Type 0 where
  pub bytes : List ℕ
  pub read : IsRead before after ended bytes
  pub came_to_end : ended ≡ true
  pub whole : IsWhole limits f bytes c.trace
  pub case : IsCase f c

-- the source came to its end, and its bytes are those of the trace for which this stands
pub record IsReadAs {K : Type 0} (Stands : K → Case → Type 0) (limits : Limits) (f : Formula) (before after : Option (List ℕ)) (ended : Bool) (x : K)
    : Type 0 where
  pub case : Case
  pub for_case : Stands x case
  pub read : IsReadWhole limits f before after ended case

-- no fault was there before the last piece, of at most 4,096 bytes
pub record IsReadPromptly (limits : Limits) (f : Formula) (bytes : List ℕ) (ended : Bool) : Type 0 where
  pub before : List ℕ
  pub piece : List ℕ
  pub parts : bytes ≡ before ++ piece
  pub short : length piece ≤ 4096
  pub at_end : ended ≡ true → piece ≡ []
  pub sound : IsSound limits f before false

-- the bytes that were read have this first fault
pub record IsReadFault (limits : Limits) (f : Formula) (before after : Option (List ℕ)) (ended : Bool) (x : Fault) : Type 0 where
  pub bytes : List ℕ
  pub read : IsRead before after ended bytes
  pub fault : IsInputFault limits f bytes ended x
  pub prompt : IsReadPromptly limits f bytes ended

-- the source failed before its end, and the bytes that were read have no fault
pub record IsReadInPart (limits : Limits) (f : Formula) (before after : Option (List ℕ)) (ended : Bool) : Type 0 where
  pub bytes : List ℕ
  pub read : IsRead before after ended bytes
  pub goes_on : ended ≡ false
  pub sound : IsSound limits f bytes false

-- why the reading stopped
abbrev pub IsStop : Limits → Formula → Option (List ℕ) → Option (List ℕ) → Bool → NoAnswer → Type 0
IsStop limits f before after ended (Faulty fault) = (x : Fault) × IsFault f fault x × IsReadFault limits f before after ended x
IsStop limits f before after ended Unread = IsReadInPart limits f before after ended
IsStop limits f before after ended NoMemory = (bytes : List ℕ) × Consumes before after bytes
IsStop limits f before after ended (Wide i den) = ⊥
IsStop limits f before after ended (TooMany count) = ⊥
