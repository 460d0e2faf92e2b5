-- An early verdict is the truth at the start in each trace that goes on from the rows.
use Rattle.std.proofs.Common.{◌≡◌, refl, sym, ◌∙◌, ℕ, Bool, true, false, List, [], ◌∷◌, ◌++◌, codes, append_assoc}
use Rattle.std.proofs.lemmas.Bool.{false≢true}
use Rattle.stl_syntax.specs.Trace.{Header, Row, Trace, IsTrace, Continues}
use Rattle.stl_syntax.specs.Formula.{Subformula}
use Rattle.stl_syntax.specs.Early.{Decides}
use Rattle.stl_syntax.specs.EarlyText.{IsEarlyText, at_row, at_end, not_yet}
use Rattle.stl_syntax.specs.Texts.{newline, start_line}
use Rattle.stl_syntax.proofs.LawProofs.{decisions_stay}
use Rattle.promises.specs.SureDecisions.{IsSureStart, IsSureDecision, decided, open_yet, EndsWithStart}

-- what rows decide is sure
pub sure_start : (p : Subformula) (header : Header) (before : List Row) (r : Row) (holds : Bool)
    → Decides p (record { header = header; rows = before ++ r ∷ [] }) holds
    → IsSureStart p header (before ++ r ∷ []) holds
sure_start p header [] r holds d = λ tr ok on. (decisions_stay p header r [] tr false holds ok on d).0
sure_start p header (q ∷ before) r holds d = λ tr ok on. (decisions_stay p header q (before ++ r ∷ []) tr false holds ok on d).0

-- what is told for the rows so far is sure
pub decision_is_sure : (p : Subformula) (header : Header) (rows : List Row) (text : List ℕ) → IsEarlyText p header rows false text
    → IsSureDecision p header rows text
decision_is_sure p header rows text told = elim told [
  | at_row before after r holds time e first num is ↦
      decided before after r holds time e first.not_before (sure_start p header before r holds first.decides) num is
  | at_end line t ok none l is ↦ absurd (false≢true t)
  | not_yet f none is ↦ open_yet none is
]

-- what is told in the end ends with the truth at the start
pub decision_is_the_truth : (p : Subformula) (tr : Trace) (text : List ℕ) → IsTrace tr → IsEarlyText p tr.header tr.rows true text → EndsWithStart p tr text
decision_is_the_truth p tr text ok told = elim told [
  | at_row before after r holds time e first num is ↦ record {
    head = codes "decided at " ++ time ++ newline;
    line = start_line holds;
    start_is = (holds, sure_start p tr.header before r holds first.decides tr ok (goes_on before after r e), refl);
    is = is;
  }
  | at_end line t rows none l is ↦ record {
    head = codes "decided at end" ++ newline;
    line = line;
    start_is = l;
    is = is;
  }
  | not_yet f none is ↦ absurd (false≢true (sym f))
]
  where
    goes_on : (before after : List Row) (r : Row) → tr.rows ≡ before ++ r ∷ after → Continues tr tr.header (before ++ r ∷ []) false
    goes_on before after r e =
        record { same_header = refl; more = after; begins = e ∙ sym (append_assoc before (r ∷ []) after); whole_input = λ t. absurd (false≢true t) }
