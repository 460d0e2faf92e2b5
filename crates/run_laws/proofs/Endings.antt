-- How a request with input ends, said of all bytes of the input: however many of them were read.
use Rattle.std.proofs.Common.{◌≡◌, ℕ, Bool, true, List, [], ◌++◌, refl, sym, subst}
use Rattle.std.proofs.lemmas.Bool.{false≢true}
use Rattle.stl_syntax.specs.Formula.{Formula}
use Rattle.stl_syntax.specs.Trace.{Trace}
use Rattle.report.specs.Report.{Command}
use Rattle.trace_reader.specs.InputFaults.{Fault, whole_limits, IsInputFault}
use Rattle.trace_stream.specs.CaseReader.{IsWhole}
use Rattle.workbench.specs.Requests.{Request, no_form, refused, whole, stream, sessions, generated, has_input}
use Rattle.workbench.specs.Owed.{limits_of, OwesAtEnd, not_yet, faulty as faulty_at_end, too_many, at_end, Owes, HasTooMany}
use Rattle.workbench.specs.Ended.{HasFault, IsAnswered, IsAnsweredWhole, IsAnsweredByRow, IsWide, IsOverfull}
use Rattle.workbench.specs.Ended.{EndsWith, none, bad, faulty, answered, wide, overfull}
use Rattle.command_line.specs.ErrTexts.{wide_text, too_many_cells_text}
use Rattle.run_laws.proofs.FaultsOfAll.{all_read, fault_of_all, rows_owed_of_all}
use Rattle.run_laws.proofs.LinesOfAll.{input_fault_of_all, lines_owed_of_all}

-- how a request ends by itself, by all bytes of its input; a refusal for a denominator may come before they were read
pub data IsEnding (request : Request) (bytes : List ℕ) : ℕ → List ℕ → List ℕ → Type 0 where
  at_fault : {line text : List ℕ} → HasFault request bytes true line → Owes request bytes true text → IsEnding request bytes 4 line text
  answer : {status : ℕ} {text : List ℕ} → IsAnswered request bytes true status text → IsEnding request bytes status [] text
  too_wide : (read left : List ℕ) (ended : Bool) (i den : ℕ) {text : List ℕ} → bytes ≡ read ++ left → (ended ≡ true → left ≡ [])
      → IsWide request read ended i den text → IsEnding request bytes 8 (wide_text i den) text
  too_full : (count : ℕ) → IsOverfull request bytes true count → IsEnding request bytes 9 (too_many_cells_text count) []

module _ (read left : List ℕ) (ended : Bool) (at : ended ≡ true → left ≡ []) where
  -- where the input said its end all bytes were read
  all_of : ended ≡ true → read ≡ read ++ left
  all_of e = sym (all_read read left (at e))

  fault_in_all : (request : Request) (line : List ℕ) → HasFault request read ended line → HasFault request (read ++ left) true line
  fault_in_all no_form line h = absurd h
  fault_in_all (refused l) line h = absurd h
  fault_in_all (whole c f) line (x, fault, e) = (x, fault_of_all whole_limits f read left ended x at fault, e)
  fault_in_all (stream s f) line (x, fault, e) = (x, fault_of_all (limits_of s) f read left ended x at fault, e)
  fault_in_all (sessions f) line (x, fault, e) = (x, input_fault_of_all read left ended x at fault, e)
  fault_in_all (generated n rows) line h = absurd h

  -- a command that holds the whole trace is owed nothing before a fault
  whole_owed : (c : Command) (f : Formula) (text : List ℕ) → ((x : Fault) × IsInputFault whole_limits f read ended x) → OwesAtEnd c f read ended text
      → OwesAtEnd c f (read ++ left) true text
  whole_owed c f text some owed = by_owed ended text refl owed
    where
      fault : IsInputFault whole_limits f (read ++ left) true some.0
      fault = fault_of_all whole_limits f read left ended some.0 at some.1

      by_owed : (b : Bool) (t : List ℕ) → ended ≡ b → OwesAtEnd c f read b t → OwesAtEnd c f (read ++ left) true t
      by_owed _ _ e not_yet = faulty_at_end some.0 fault
      by_owed _ _ e (faulty_at_end x also) = faulty_at_end some.0 fault
      by_owed _ _ e (too_many tr count is many) = faulty_at_end some.0 fault
      by_owed _ _ e (at_end tr is few out) = absurd (is.sound some.0 (subst (λ (b : Bool). IsInputFault whole_limits f read b some.0) e some.1))

  owed_in_all : (request : Request) (line text : List ℕ) → HasFault request read ended line → Owes request read ended text
      → Owes request (read ++ left) true text
  owed_in_all no_form line text h owed = absurd h
  owed_in_all (refused l) line text h owed = absurd h
  owed_in_all (whole c f) line text (x, fault, e) owed = whole_owed c f text (x, fault) owed
  owed_in_all (stream s f) line text (x, fault, e) owed = rows_owed_of_all s f read left text ended at (x, fault) owed
  owed_in_all (sessions f) line text (x, fault, e) owed = lines_owed_of_all f read left text ended at (x, fault) owed
  owed_in_all (generated n rows) line text h owed = absurd h

  answer_to_all : (request : Request) (status : ℕ) (text : List ℕ) → has_input request ≡ true → IsAnswered request read ended status text
      → IsAnswered request (read ++ left) true status text
  answer_to_all no_form status text has h = absurd h
  answer_to_all (refused l) status text has h = absurd h
  answer_to_all (whole c f) status text has (e, h) = (refl, subst (λ b. IsAnsweredWhole c f b status text) (all_of e) h)
  answer_to_all (stream s f) status text has (e, h) = (refl, subst (λ b. IsAnsweredByRow s f b status text) (all_of e) h)
  answer_to_all (sessions f) status text has h =
      let b : IsAnswered (sessions f) read true status text = subst (λ (b : Bool). IsAnswered (sessions f) read b status text) h.0 h in
      subst (λ bs. IsAnswered (sessions f) bs true status text) (all_of h.0) b
  answer_to_all (generated n rows) status text has h = absurd (false≢true has)

  overfull_in_all : (request : Request) (count : ℕ) → IsOverfull request read ended count → IsOverfull request (read ++ left) true count
  overfull_in_all no_form count h = absurd h
  overfull_in_all (refused l) count h = absurd h
  overfull_in_all (whole c f) count (e, h) = (refl, subst (λ b. (tr : Trace) × IsWhole whole_limits f b tr × HasTooMany c f tr count) (all_of e) h)
  overfull_in_all (stream s f) count h = absurd h
  overfull_in_all (sessions f) count h = absurd h
  overfull_in_all (generated n rows) count h = absurd h

  -- an ending of the bytes that were read is one of all bytes
  pub ending_of_all : (request : Request) (status : ℕ) (line text : List ℕ) → has_input request ≡ true → EndsWith read ended request status line text
      → IsEnding request (read ++ left) status line text
  ending_of_all request status line text has none = absurd (false≢true has)
  ending_of_all request status line text has bad = absurd (false≢true has)
  ending_of_all request status line text has (faulty h prompt owed) = at_fault (fault_in_all request line h) (owed_in_all request line text h owed)
  ending_of_all request status line text has (answered h) = answer (answer_to_all request status text has h)
  ending_of_all request status line text has (wide i den h) = too_wide read left ended i den refl at h
  ending_of_all request status line text has (overfull count h) = too_full count (overfull_in_all request count h)
