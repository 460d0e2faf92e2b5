-- What follows the rows of a trace, and the reader over it.
use Rattle.std.specs.Prelude.{◌≡◌, ◌⊎◌, ℕ, Bool, true, false, List, [], ◌++◌, Option, Some, None}
use Rattle.stl_syntax.specs.Formula.{Formula, root}
use Rattle.stl_syntax.specs.Trace.{Header, Row}
use Rattle.trace_reader.specs.Reader.{Reader, StandsFor}
use Rattle.trace_reader.specs.declared.refusal.Limits.{Limits}
use Rattle.trace_stream.specs.Streams.{Stream, margins, limits_of, HasStream, StreamText, StreamOf, IsLastVerdict, status_of_truth}
use Rattle.trace_reader.specs.InputFaults.{Fault, IsInputFault, AreRowsBefore}
use Rattle.trace_stream.specs.Cases.{IsFault, IsCase, Takes}
use Rattle.trace_stream.specs.CaseReader.{IsKept, IsWhole}
use Rattle.trace_stream.specs.Kept.{with_rows}
use Rattle.trace_stream.specs.Wides.{IsNeededByThen, IsWideStream}
use Rattle.trace_stream.specs.declared.case.Case.{Case}
use Rattle.trace_stream.specs.declared.fault.StreamStop.{StreamStop}
use Rattle.trace_stream.specs.declared.fault.StreamStop.TheVariants.{Fault as Faulty, NoMemory, Wide}
use Rattle.trace_stream.specs.declared.follow.FollowFault.{FollowFault}
use Rattle.trace_stream.specs.declared.follow.FollowFault.TheVariants as follow
use Rattle.trace_stream.specs.declared.live.Live.{Live}

-- the text that was made is that of the rows of the case
pub record Follows (Stands : Case → List ℕ → Type 0) (kind : Stream) (c : Case) (made : List ℕ) : Type 0 where
  pub stands : Stands c made
  pub fits : (f : Formula) × IsCase f c
  pub told : StreamText kind (root c.formula.nodes) c.trace.header c.trace.rows false made

-- for some case, which can take the row
abbrev pub HasFollowed : (Case → List ℕ → Type 0) → Stream → Row → Type 0
HasFollowed Stands kind r = (c : Case) × (made : List ℕ) × Follows Stands kind c made × Takes r c.trace

-- the text that was made is that of the rows of the case, or some of it is owed
abbrev pub IsOpen : (Case → List ℕ → Type 0) → (Case → List ℕ → Type 0) → Stream → Case → List ℕ → Type 0
IsOpen Stands Owes kind c made = Follows Stands kind c made ⊎ Owes c made

-- for some case, which can take the row
abbrev pub HasOpen : (Case → List ℕ → Type 0) → (Case → List ℕ → Type 0) → Stream → Row → Type 0
HasOpen Stands Owes kind r = (c : Case) × (made : List ℕ) × IsOpen Stands Owes kind c made × Takes r c.trace

-- the text grew, and that of the rows of the case is made, or some of it is owed
abbrev pub IsOpenOn : (Case → List ℕ → Type 0) → (Case → List ℕ → Type 0) → Stream → Case → List ℕ → List ℕ → List ℕ → Type 0
IsOpenOn Stands Owes kind c old new made = (grown : List ℕ) × (new ≡ old ++ grown) × IsOpen Stands Owes kind c (made ++ grown)

-- some bytes more were taken, which are rows, and the text grew: that of the rows of the case with them is made, or some of it is owed
pub record IsOpenBy (Stands Owes : Case → List ℕ → Type 0) (kind : Stream) (before after : Reader) (c : Case) (taken old new made : List ℕ) : Type 0 where
  pub more : List Row
  pub stands : (bytes : List ℕ) (rows : List Row) → StandsFor before bytes rows → StandsFor after (bytes ++ taken) (rows ++ more)
  pub opened : IsOpenOn Stands Owes kind (with_rows more c) old new made

-- the text grew to that of the rows of the case
abbrev pub IsFollowedOn : (Case → List ℕ → Type 0) → Stream → Case → List ℕ → List ℕ → List ℕ → Type 0
IsFollowedOn Stands kind c old new made = (grown : List ℕ) × (new ≡ old ++ grown) × Follows Stands kind c (made ++ grown)

-- the whole text of the case was made, and this is the verdict of its status
pub record IsComplete (Ended : Case → List ℕ → Type 0) (kind : Stream) (c : Case) (made : List ℕ) (holds : Bool) : Type 0 where
  pub ended : Ended c made
  pub told : StreamText kind (root c.formula.nodes) c.trace.header c.trace.rows true made
  pub verdict : (f : Formula) → IsCase f c → IsLastVerdict kind f c.trace (status_of_truth holds)

-- the text grew to that
abbrev pub IsFollowedOut : (Case → List ℕ → Type 0) → Stream → Case → List ℕ → List ℕ → List ℕ → Bool → Type 0
IsFollowedOut Ended kind c old new made holds = (grown : List ℕ) × (new ≡ old ++ grown) × IsComplete Ended kind c (made ++ grown) holds

-- why the rows of the case, the last of which is new, or their end, are not followed
abbrev pub IsFollowFault : Stream → Case → Bool → FollowFault → Type 0
IsFollowFault s c ended follow.Memory = Unit {0}
IsFollowFault margins c ended (follow.Wide i den) = IsNeededByThen c.formula.nodes c.trace ended i den
IsFollowFault s c ended (follow.Wide i den) = ⊥

-- a refusal for a denominator makes no text
abbrev pub IsUnwritten : List ℕ → List ℕ → FollowFault → Type 0
IsUnwritten old new follow.Memory = Unit {0}
IsUnwritten old new (follow.Wide i den) = new ≡ old

-- the reason to stop that it is
abbrev pub stop_of : FollowFault → StreamStop
stop_of follow.Memory = NoMemory
stop_of (follow.Wide i den) = Wide i den

-- why the rows of a case that was begun, the last of which is new, or their end, were not taken
abbrev pub IsHeldUp : Stream → Option Case → Bool → List ℕ → List ℕ → StreamStop → Type 0
IsHeldUp s None ended old new stop = ⊥
IsHeldUp s (Some c) ended old new stop = (fault : FollowFault) × (stop ≡ stop_of fault) × IsFollowFault s c ended fault × IsUnwritten old new fault

-- the text of the rows before the first fault of the bytes, with its end where there is none and the input has ended
pub record IsTextOf (kind : Stream) (limits : Limits) (f : Formula) (bytes : List ℕ) (ended : Bool) (text : List ℕ) : Type 0 where
  pub header : Option Header
  pub rows : List Row
  pub whole : Bool
  pub before : AreRowsBefore limits f bytes ended header rows whole
  pub is : StreamOf kind f header rows whole text

module _ {F : Type 0} (Stands : F → Case → List ℕ → Type 0) (kind : Stream) where
  -- once the header was read, the text is that of the case's rows
  abbrev pub IsFollowed : Option F → Option Case → List ℕ → Type 0
  IsFollowed None None made = made ≡ []
  IsFollowed None (Some c) made = ⊥
  IsFollowed (Some x) None made = ⊥
  IsFollowed (Some x) (Some c) made = Follows (Stands x) kind c made

  -- the reader took these bytes; this text was written for them, and the reader's own text is to come after it
  pub record IsLive (live : Live F) (bytes written : List ℕ) : Type 0 where
    pub served : HasStream kind live.formula
    pub case : Option Case
    pub kept : IsKept live.formula live.rows case bytes
    pub followed : IsFollowed live.follower case (written ++ live.text)

  -- some bytes and some text
  pub record HasLived (live : Live F) : Type 0 where
    pub bytes : List ℕ
    pub written : List ℕ
    pub is : IsLive live bytes written

  -- it stands for these bytes, for which this text was written; nothing is to be written
  pub record IsAtRest (live : Live F) (bytes written : List ℕ) : Type 0 where
    pub live_for : IsLive live bytes written
    pub limits : live.rows.limits ≡ limits_of kind
    pub empty : live.text ≡ []

module _ {F : Type 0} (Ended : F → Case → List ℕ → Type 0) (kind : Stream) where
  -- what follows the rows took their end
  abbrev pub IsEndedOut : Option F → Case → List ℕ → List ℕ → List ℕ → Bool → Type 0
  IsEndedOut follower c old new made holds = (x : F) × (follower ≡ Some x) × IsFollowedOut (Ended x) kind c old new made holds

  -- all bytes were taken, which are those of a trace, and their end; this is the whole text
  pub record IsOver (limits : Limits) (f : Formula) (live : Live F) (bytes text : List ℕ) (holds : Bool) : Type 0 where
    pub case : Case
    pub fits : IsCase f case
    pub trace : IsWhole limits f bytes case.trace
    pub follower : F
    pub is : live.follower ≡ Some follower
    pub complete : IsComplete (Ended follower) kind case text holds

  -- it stands for these bytes and their end, for which this text was made
  abbrev pub IsDone : Live F → List ℕ → List ℕ → Type 0
  IsDone live bytes text = (holds : Bool) × IsOver (limits_of kind) live.formula live bytes text holds

module _ {F : Type 0} (Stands : F → Case → List ℕ → Type 0) (kind : Stream) where
  -- all bytes were taken, which are those of a trace; this text was made for its rows
  pub record IsLastTaken (limits : Limits) (f : Formula) (follower : Option F) (bytes text : List ℕ) : Type 0 where
    pub case : Case
    pub fits : IsCase f case
    pub trace : IsWhole limits f bytes case.trace
    pub followed : IsFollowed Stands kind follower (Some case) text

-- why no more was taken of these bytes, of which this text was made
abbrev pub IsLiveStop : Stream → Limits → Formula → Bool → List ℕ → List ℕ → StreamStop → Type 0
IsLiveStop kind limits f ended bytes text (Faulty fault) =
    (x : Fault) × IsFault f fault x × IsInputFault limits f bytes ended x × IsTextOf kind limits f bytes ended text
IsLiveStop kind limits f ended bytes text NoMemory = Unit {0}
IsLiveStop kind limits f ended bytes text (Wide i den) = IsWideStream kind limits f bytes ended i den text

module _ {F : Type 0} (Stands Owes : F → Case → List ℕ → Type 0) (kind : Stream) where
  -- once the header was read, the text is that of the case's rows, but for what is owed
  abbrev pub IsOpened : Option F → Option Case → List ℕ → Type 0
  IsOpened None None made = made ≡ []
  IsOpened None (Some c) made = ⊥
  IsOpened (Some x) None made = ⊥
  IsOpened (Some x) (Some c) made = IsOpen (Stands x) (Owes x) kind c made

  -- the reader took these bytes, and the text grew: that of the case's rows is made, but for what is owed
  pub record IsOpenedBy (f : Formula) (reader : Reader) (follower : Option F) (bytes old new made : List ℕ) : Type 0 where
    pub case : Option Case
    pub kept : IsKept f reader case bytes
    pub grown : List ℕ
    pub text : new ≡ old ++ grown
    pub opened : IsOpened follower case (made ++ grown)

  -- as `IsLive`, but for text that is owed
  pub record IsLiveOpen (live : Live F) (bytes written : List ℕ) : Type 0 where
    pub served : HasStream kind live.formula
    pub case : Option Case
    pub kept : IsKept live.formula live.rows case bytes
    pub followed : IsOpened live.follower case (written ++ live.text)

  -- some bytes and some text
  pub record HasLivedOpen (live : Live F) : Type 0 where
    pub bytes : List ℕ
    pub written : List ℕ
    pub is : IsLiveOpen live bytes written

  -- why no more was taken of these bytes: at a fault the text, once what is owed was made, is that of the rows before it
  abbrev pub IsOpenStop : Limits → Formula → Bool → List ℕ → Option F → List ℕ → StreamStop → Type 0
  IsOpenStop limits f ended bytes follower text (Faulty fault) =
      (x : Fault) × IsFault f fault x × IsInputFault limits f bytes ended x × (case : Option Case) × IsOpened follower case text
      × ((after : Option F) (made : List ℕ) → IsFollowed Stands kind after case made → IsTextOf kind limits f bytes ended made)
  IsOpenStop limits f ended bytes follower text stop = IsLiveStop kind limits f ended bytes text stop
