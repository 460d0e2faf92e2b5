-- How far an input of several sessions has come, and why no more is taken of it.
use Rattle.std.specs.Prelude.{◌≡◌, ℕ, ◌+◌, ◌*◌, ◌≤◌, ◌<◌, suc, Bool, true, false, List, [], ◌∷◌, ◌++◌, length, MatchBool}
use Rattle.stl_syntax.specs.Characters.{is_among}
use Rattle.stl_syntax.specs.Formula.{Formula}
use Rattle.trace_reader.specs.TraceText.{Line, lines, content, is_blank_line}
use Rattle.trace_reader.specs.Feeds.{HasNoFeed}
use Rattle.session_mux.specs.Sessions.{Tagged, IsTagged, AreTagged, AreAnswers}
use Rattle.session_mux.specs.Knowing.{tags_of}
use Rattle.session_mux.specs.Muxes.{Muxed, Past, StandsFor, StandsForAll, HasTaken}
use Rattle.session_mux.specs.Inputs.{InputFault, too_many_lines, too_long, bad_tag, too_many_sessions, FaultOfInput, OwesLines}
use Rattle.session_mux.specs.declared.stop.FaultAt.{FaultAt}
use Rattle.session_mux.specs.declared.stop.LineKind.{LineKind}
use Rattle.session_mux.specs.declared.stop.LineKind.TheVariants as kind
use Rattle.session_mux.specs.declared.stop.InputStop.{InputStop}
use Rattle.session_mux.specs.declared.stop.InputStop.TheVariants.{Fault as Faulty, NoMemory}
use Rattle.session_mux.specs.declared.input.Input.{Input}

-- these bytes as a line that has ended
abbrev pub ended_line : List ℕ → Line
ended_line bytes = record { bytes = bytes; whole = true }

-- a line that is not too long, and none too many
abbrev pub IsSized : ℕ → ℕ → Type 0
IsSized n size = (n ≤ 8589934592) × (size ≤ 4113)

-- lines that have ended, from line n on and without a fault of the input, where `known` are the tags before them; with their tags and
-- contents, and the tags that are known after them
pub data ArePassed : ℕ → List (List ℕ) → List Line → List Tagged → List (List ℕ) → Type 0 where
  none : {n : ℕ} {known : List (List ℕ)} → ArePassed n known [] [] known
  blank : {n : ℕ} {known after : List (List ℕ)} {line : Line} {more : List Line} {tagged : List Tagged}
      → IsSized n (length line.bytes) → line.whole ≡ true → is_blank_line line ≡ true
      → ArePassed (suc n) known more tagged after → ArePassed n known (line ∷ more) tagged after
  old_tag : {n : ℕ} {known after : List (List ℕ)} {line : Line} {more : List Line} {x : Tagged} {tagged : List Tagged}
      → IsSized n (length line.bytes) → line.whole ≡ true
      → is_blank_line line ≡ false → IsTagged (content line) x → is_among x.tag known ≡ true
      → ArePassed (suc n) known more tagged after → ArePassed n known (line ∷ more) (x ∷ tagged) after
  new_tag : {n : ℕ} {known after : List (List ℕ)} {line : Line} {more : List Line} {x : Tagged} {tagged : List Tagged}
      → IsSized n (length line.bytes) → line.whole ≡ true
      → is_blank_line line ≡ false → IsTagged (content line) x → is_among x.tag known ≡ false → length known < 1024
      → ArePassed (suc n) (x.tag ∷ known) more tagged after
      → ArePassed n known (line ∷ more) (x ∷ tagged) after

-- the sessions took these lines, and this is the text of their answers
pub record HasLines (f : Formula) (mux : Muxed) (front : List Line) (text : List ℕ) : Type 0 where
  pub tagged : List Tagged
  pub after : List (List ℕ)
  pub passed : ArePassed 1 [] front tagged after
  pub stands : StandsFor (record { formula = f; seen = tagged }) mux
  pub said : AreAnswers f [] tagged text

-- an input took these bytes; this text was written for them, and the input's own text is to come after it
pub record IsTaking (f : Formula) (i : Input) (bytes written : List ℕ) : Type 0 where
  pub front : List Line
  pub free : HasNoFeed i.part
  pub joins : (e : Bool) (more : List ℕ) → lines e (bytes ++ more) ≡ front ++ lines e (i.part ++ more)
  pub count : i.whole ≡ length front
  pub few : i.whole ≤ 8589934592
  pub part_few : 0 < length i.part → i.whole < 8589934592
  pub short : length i.part ≤ 4113
  pub small : length bytes ≤ 4114 * i.whole + length i.part
  pub taken : HasLines f i.mux front (written ++ i.text)

-- some bytes of an input of some formula
pub record HasTakenSome (i : Input) : Type 0 where
  pub formula : Formula
  pub bytes : List ℕ
  pub written : List ℕ
  pub is : IsTaking formula i bytes written

-- the fault of a line
abbrev pub fault_in : ℕ → LineKind → InputFault
fault_in n kind.TooManyLines = too_many_lines n
fault_in n kind.TooLong = too_long n
fault_in n kind.BadTag = bad_tag n
fault_in n kind.TooManySessions = too_many_sessions n

-- the fault that is stored
abbrev pub fault_of : FaultAt → InputFault
fault_of x = fault_in x.line x.kind

-- why no more was taken of these bytes, of which this text was made
abbrev pub IsInputStop : Formula → List ℕ → Bool → List ℕ → InputStop → Type 0
IsInputStop f bytes ended text (Faulty fault) = FaultOfInput 1 [] (lines ended bytes) (fault_of fault) × OwesLines f bytes ended text
IsInputStop f bytes ended text NoMemory = Unit {0}

-- why a line was not taken, whatever the lines after it
abbrev pub IsLineStop : Formula → List Line → List ℕ → List ℕ → InputStop → Type 0
IsLineStop f front line text e = (bytes : List ℕ) (ended : Bool) (later : List Line)
    → lines ended bytes ≡ front ++ ended_line line ∷ later → IsInputStop f bytes ended text e

-- why bytes of a line were not taken, whatever the bytes after them
abbrev pub IsPartStop : Formula → List ℕ → List ℕ → InputStop → Type 0
IsPartStop f bytes text e = (ended : Bool) (more : List ℕ) → IsInputStop f (bytes ++ more) ended text e

-- all bytes were taken, and their end: the whole text, and what the sessions stand for
pub record HasAll (f : Formula) (mux : Muxed) (bytes text : List ℕ) : Type 0 where
  pub owed : OwesLines f bytes true text
  pub sound : (x : InputFault) → ¬ FaultOfInput 1 [] (lines true bytes) x
  pub seen : List Tagged
  pub are : AreTagged (lines true bytes) seen
  pub stands : StandsForAll (record { formula = f; seen = seen }) mux

-- a line was handed to the sessions: a blank one changes nothing, another one is answered
abbrev pub IsHanded : Past → List ℕ → Muxed → List ℕ → List ℕ → Type 0
IsHanded p line new before after = MatchBool (is_blank_line (ended_line line)) (StandsFor p new × (after ≡ before))
    ((x : Tagged) × IsTagged (content (ended_line line)) x × HasTaken p x new before after)

-- why the sessions refused it
abbrev pub IsRefusedBy : Past → List ℕ → LineKind → Type 0
IsRefusedBy p line kind.TooManyLines = ⊥
IsRefusedBy p line kind.TooLong = ⊥
IsRefusedBy p line kind.BadTag = (t : Tagged) → ¬ IsTagged (content (ended_line line)) t
IsRefusedBy p line kind.TooManySessions =
    ((t : Tagged) × IsTagged (content (ended_line line)) t × (is_among t.tag (tags_of p.seen) ≡ false)) × (1024 ≤ length (tags_of p.seen))

-- so of line n, and nothing was added
abbrev pub IsNotHanded : Past → ℕ → List ℕ → List ℕ → List ℕ → InputStop → Type 0
IsNotHanded p n line before after (Faulty x) = (x.line ≡ n) × (is_blank_line (ended_line line) ≡ false) × (after ≡ before) × IsRefusedBy p line x.kind
IsNotHanded p n line before after NoMemory = Unit {0}

-- a line of so many bytes is one too many, or too long
abbrev pub IsUnsizedBy : ℕ → ℕ → LineKind → Type 0
IsUnsizedBy n size kind.TooManyLines = 8589934592 < n
IsUnsizedBy n size kind.TooLong = (n ≤ 8589934592) × (4113 < size)
IsUnsizedBy n size kind.BadTag = ⊥
IsUnsizedBy n size kind.TooManySessions = ⊥

-- so of line n
abbrev pub IsUnsized : ℕ → ℕ → InputStop → Type 0
IsUnsized n size (Faulty x) = (x.line ≡ n) × IsUnsizedBy n size x.kind
IsUnsized n size NoMemory = ⊥
