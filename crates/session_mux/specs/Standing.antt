-- What a session stands for, and what it replies: words of private contracts.
use Rattle.std.specs.Prelude.{◌≡◌, ◌⊎◌, ℕ, Bool, true, false, List, [], ◌++◌, codes, Option, Some, None, MatchBool}
use Rattle.circular_buffer.specs.Buffer.{Buffer, buffer, keep_last}
use Rattle.stl_syntax.specs.Formula.{Formula}
use Rattle.trace_reader.specs.TraceText.{lines}
use Rattle.trace_reader.specs.InputFaults.{Fault, stream_limits, IsInputFault}
use Rattle.trace_stream.specs.Cases.{IsFault}
use Rattle.trace_stream.specs.Streams.{verdicts}
use Rattle.trace_stream.specs.Following.{IsLive, IsLiveStop}
pub use Rattle.verdict_stream.specs.Watching.{WatchesRows, WatchesEnd}
use Rattle.trace_stream.specs.declared.fault.StreamStop.{StreamStop}
use Rattle.trace_stream.specs.declared.fault.StreamStop.TheVariants.{Fault as Faulty, NoMemory, Wide}
use Rattle.trace_stream.specs.declared.live.Live.{Live}
use Rattle.verdict_stream.specs.declared.verdicts.Verdicts.{Verdicts}
use Rattle.session_mux.specs.Sessions.{Alone, prefixed, last_eight}
use Rattle.session_mux.specs.Saying.{texts, said_lines}
use Rattle.session_mux.specs.Owning.{Own, asks, with_content}
use Rattle.session_mux.specs.declared.session.Session.{Session}

-- what a session writes by itself for what it has got
abbrev pub IsOwnText : Formula → Own → List ℕ → Type 0
IsOwnText f o text = Alone f o.bytes o.stopped text

-- its trace has a fault, whatever follows
abbrev pub HasFault : Formula → List ℕ → Type 0
HasFault f bytes = (x : Fault) × IsInputFault stream_limits f bytes false x

-- what was got stops so: its trace has a fault, at its end too
abbrev pub HasStopped : Formula → Own → Type 0
HasStopped f o = (x : Fault) × IsInputFault stream_limits f o.bytes o.stopped x

-- the reader stands for the bytes; all of its text was said
pub record IsOpen (f : Formula) (bytes said : List ℕ) (live : Live Verdicts) : Type 0 where
  pub formula : live.formula ≡ f
  pub limits : live.rows.limits ≡ stream_limits
  pub empty : live.text ≡ []
  pub stands : IsLive WatchesRows verdicts live bytes said

-- a stored fault is one of the formula
abbrev pub HasReason : Formula → StreamStop → Type 0
HasReason f (Faulty fault) = (x : Fault) × IsFault f fault x
HasReason f NoMemory = Unit {0}
HasReason f (Wide i den) = Unit {0}

-- the reader stopped so for what was got, of which this text was made
abbrev pub IsStoppedAt : Formula → Own → List ℕ → StreamStop → Type 0
IsStoppedAt f o text stop = IsLiveStop verdicts stream_limits f o.stopped o.bytes text stop

-- the session goes on with a reader, or is over
abbrev pub GoesOnWith : Formula → Own → List ℕ → Option (Live Verdicts) → Type 0
GoesOnWith f o said None = (o.stopped ≡ true) ⊎ HasFault f o.bytes
GoesOnWith f o said (Some live) = (o.stopped ≡ false) × IsOpen f o.bytes said live

-- the last eight lines of a text
abbrev pub recent_of : List ℕ → Buffer (List ℕ)
recent_of text = buffer (keep_last 8 (texts text)) 8

-- the session stands for what it has got, for which this text was said
pub record HasSaidSoFar (f : Formula) (o : Own) (said : List ℕ) (s : Session) : Type 0 where
  pub alone : IsOwnText f o said
  pub recent : s.recent ≡ recent_of said
  pub goes_on : GoesOnWith f o said s.stream

-- for some formula, what it has got and a text
abbrev pub HasSaidSome : Session → Type 0
HasSaidSome s = (f : Formula) × (o : Own) × (said : List ℕ) × HasSaidSoFar f o said s

-- the lines by which the text of a session grows, each after its tag
abbrev pub IsGrowth : Formula → List ℕ → Own → Own → List ℕ → Type 0
IsGrowth f tag o p reply = (old grown : List ℕ) × IsOwnText f o old × IsOwnText f p (old ++ grown) × (reply ≡ said_lines tag grown)

-- the text grew to one of what was got now, and its new lines were said and kept
pub record HasGrown (f : Formula) (tag : List ℕ) (p : Own) (said : List ℕ) (recent : Buffer (List ℕ)) (before after : List ℕ)
    (After : List ℕ → Type 0) : Type 0 where
  pub grown : List ℕ
  pub alone : IsOwnText f p (said ++ grown)
  pub recent_is : recent ≡ recent_of (said ++ grown)
  pub added : after ≡ before ++ said_lines tag grown
  pub then : After (said ++ grown)

-- at most a first part of each reply was added
pub record IsCutShort (Reply : List ℕ → Type 0) (before after : List ℕ) : Type 0 where
  pub first : List ℕ
  pub added : after ≡ before ++ first
  pub begins : (reply : List ℕ) → Reply reply → (rest : List ℕ) × (reply ≡ first ++ rest)

-- a reader that goes on, or a trace with a fault
abbrev pub IsAfterLine : Formula → List ℕ → Bool → Live Verdicts → List ℕ → Type 0
IsAfterLine f bytes goes_on live text = MatchBool goes_on (IsOpen f bytes text live) (HasFault f bytes)

-- the reply to a content: the last lines, or those by which the text grows
abbrev pub IsReply : Formula → List ℕ → Own → List ℕ → List ℕ → Type 0
IsReply f tag o content reply =
    MatchBool (asks content)
    ((old : List ℕ) × IsOwnText f o old × (reply ≡ prefixed (tag ++ codes " ? ") (last_eight (lines true old))))
    (IsGrowth f tag o (with_content o content) reply)

-- the session stands for what it has got now, and its reply was added
pub record HasReplied (f : Formula) (p : Own) (old new : Session) (Reply : List ℕ → Type 0) (before after : List ℕ) : Type 0 where
  pub tag : new.tag ≡ old.tag
  pub said : List ℕ
  pub stands : HasSaidSoFar f p said new
  pub reply : List ℕ
  pub is : Reply reply
  pub added : after ≡ before ++ reply
