-- The lines of an input of several sessions: its first fault, and what is owed for the lines before it.
use Rattle.std.specs.Prelude.{ℕ, ◌-◌, ◌≤◌, ◌<◌, suc, Bool, false, List, [], ◌∷◌, take, length, codes, IsTrue, MatchBool}
use Rattle.stl_syntax.specs.Characters.{is_among}
use Rattle.stl_syntax.specs.Choice.{◌or_else◌, Where, Nothing}
use Rattle.stl_syntax.specs.Formula.{Formula}
use Rattle.trace_reader.specs.TraceText.{Line, lines, content, is_blank_line}
use Rattle.answer_lines.specs.FaultTexts.{in_line}
use Rattle.session_mux.specs.Sessions.{Tagged, IsTagged, AreTagged, MuxText}

-- a fault of the input itself
pub data InputFault : Type 0 where
  too_many_lines : ℕ → InputFault
  too_long : ℕ → InputFault
  bad_tag : ℕ → InputFault
  too_many_sessions : ℕ → InputFault

-- the first fault from line n on, where `known` are the tags before it
abbrev pub FaultOfInput : ℕ → List (List ℕ) → List Line → InputFault → Type 0
FaultOfInput n known [] = Nothing
FaultOfInput n known (line ∷ more) =
    Where (8589934592 < n) (too_many_lines n)
    or_else Where (4113 < length line.bytes) (too_long n)
    or_else (λ x. IsTrue line.whole × MatchBool (is_blank_line line) (FaultOfInput (suc n) known more x)
    ((Where (¬ ((t : Tagged) × IsTagged (content line) t)) (bad_tag n)
    or_else (λ x. (t : Tagged) × IsTagged (content line) t × MatchBool (is_among t.tag known) (FaultOfInput (suc n) known more x)
    ((Where (1024 ≤ length known) (too_many_sessions n) or_else FaultOfInput (suc n) (t.tag ∷ known) more) x))) x))

-- the line of a fault of the input of several sessions
abbrev pub fault_line : InputFault → ℕ
fault_line (too_many_lines n) = n
fault_line (too_long n) = n
fault_line (bad_tag n) = n
fault_line (too_many_sessions n) = n

-- the faults of the lines of several sessions
abbrev pub bad_tag_text : ℕ → List ℕ
bad_tag_text n = in_line n (codes "bad tag")

-- a tag too many
abbrev pub too_many_sessions_text : ℕ → List ℕ
too_many_sessions_text n = in_line n (codes "too many sessions")

-- the line that tells of it
abbrev pub input_fault_text : InputFault → List ℕ
input_fault_text (too_many_lines n) = in_line n (codes "too many lines")
input_fault_text (too_long n) = in_line n (codes "line too long")
input_fault_text (bad_tag n) = bad_tag_text n
input_fault_text (too_many_sessions n) = too_many_sessions_text n

-- the lines of several sessions before the first fault; `whole` where the input has ended and there is none
pub data AreLinesBefore (bytes : List ℕ) (ended : Bool) : List Tagged → Bool → Type 0 where
  sound : {tagged : List Tagged} → ((x : InputFault) → ¬ FaultOfInput 1 [] (lines ended bytes) x) → AreTagged (lines ended bytes) tagged
      → AreLinesBefore bytes ended tagged ended
  faulted : {tagged : List Tagged} (x : InputFault) → FaultOfInput 1 [] (lines ended bytes) x → AreTagged (take (fault_line x - 1) (lines ended bytes)) tagged
      → AreLinesBefore bytes ended tagged false

-- of several sessions
pub record OwesLines (f : Formula) (bytes : List ℕ) (ended : Bool) (text : List ℕ) : Type 0 where
  pub tagged : List Tagged
  pub whole : Bool
  pub before : AreLinesBefore bytes ended tagged whole
  pub is : MuxText f tagged whole text
