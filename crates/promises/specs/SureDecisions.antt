-- What an early verdict is: the truth at the start in each trace that goes on from the rows, told at the first row that decides.
use Rattle.std.specs.Prelude.{◌≡◌, ℕ, Bool, false, List, [], ◌∷◌, ◌++◌, codes, MatchBool}
use Rattle.stl_syntax.specs.Trace.{Header, Row, Trace, IsTrace, Continues, row_time, start}
use Rattle.stl_syntax.specs.Formula.{Subformula}
use Rattle.stl_syntax.specs.Truth.{Truth}
use Rattle.stl_syntax.specs.Early.{NoneDecides}
use Rattle.stl_syntax.specs.Texts.{IsNumberText, IsStartLine, newline, start_line}

-- so it is at the start of every trace that goes on from the rows
abbrev pub IsSureStart : Subformula → Header → List Row → Bool → Type 0
IsSureStart p header rows holds = (tr : Trace) → IsTrace tr → Continues tr header rows false → MatchBool holds (Truth p tr (start tr)) (¬ Truth p tr (start tr))

-- the text for the rows so far: the time of the first row that decides, and what is sure with it; or nothing, where none decides
pub data IsSureDecision (p : Subformula) (header : Header) (rows : List Row) (text : List ℕ) : Type 0 where
  decided : (before after : List Row) (r : Row) (holds : Bool) (time : List ℕ) → rows ≡ before ++ r ∷ after → NoneDecides p header before
      → IsSureStart p header (before ++ r ∷ []) holds → IsNumberText header.scale.time (row_time r) time
      → text ≡ codes "decided at " ++ time ++ newline ++ start_line holds → IsSureDecision p header rows text
  open_yet : NoneDecides p header rows → text ≡ [] → IsSureDecision p header rows text

-- the text ends with the line of the truth at the start of the trace
pub record EndsWithStart (p : Subformula) (tr : Trace) (text : List ℕ) : Type 0 where
  pub head : List ℕ
  pub line : List ℕ
  pub start_is : IsStartLine p tr line
  pub is : text ≡ head ++ line
