-- The promises of the command `check`, clause by clause.
use Rattle.std.specs.Prelude.{◌≡◌, ◌≢◌, ◌⊎◌, ℕ, ◌≤◌, Bool, true, List, [], ◌++◌, Option, Some}
use Rattle.io_edge.specs.Causes.{Rose}
use Rattle.stl_syntax.specs.Formula.{Formula}
use Rattle.stl_syntax.specs.Trace.{Trace}
use Rattle.stl_grammar.specs.FormulaRefusals.{IsFormulaOf, IsFormulaFault}
use Rattle.stl_grammar.specs.declared.fault.FormulaFault.{FormulaFault}
use Rattle.report.specs.Report.{Out, check}
use Rattle.promises.specs.Words.{AskCheck}
use Rattle.workbench.specs.Requests.{usage_line}
use Rattle.workbench.specs.InputFaults.{Fault, fault_text, whole_limits, IsInputFault}
use Rattle.trace_stream.specs.Streams.{HoldsAtStart}
use Rattle.trace_stream.specs.CaseReader.{IsWhole, IsSound}
use Rattle.command_line.specs.ErrTexts.{formula_fault_text, out_of_memory, read_fault, write_fault}

-- the text is refused with this line
abbrev pub HasBadText : List ℕ → List ℕ → Type 0
HasBadText text line = (r : FormulaFault) × IsFormulaFault text r × (line ≡ formula_fault_text r)

-- the words ask for a text that is refused with this line
pub record AskForBad (words : List (List ℕ)) (line : List ℕ) : Type 0 where
  pub text : List ℕ
  pub form : AskCheck words text
  pub bad : HasBadText text line

-- the words ask for this formula
pub record AskFor (words : List (List ℕ)) (f : Formula) : Type 0 where
  pub text : List ℕ
  pub form : AskCheck words text
  pub is : IsFormulaOf text f

-- the device told its bytes, and these were taken from their front
pub record Drew (before after : Option (List ℕ)) (bytes : List ℕ) : Type 0 where
  pub left : List ℕ
  pub was : before ≡ Some (bytes ++ left)
  pub now : after ≡ Some left

-- the device told its bytes, and these were put at their end
pub record Got (before after : Option (List ℕ)) (bytes : List ℕ) : Type 0 where
  pub held : List ℕ
  pub was : before ≡ Some held
  pub now : after ≡ Some (held ++ bytes)

-- the bytes are those of a trace, the text is that of `check` for it, and the status tells the truth at the start
pub record IsChecked (f : Formula) (bytes text : List ℕ) (status : ℕ) : Type 0 where
  pub tr : Trace
  pub trace : IsWhole whole_limits f bytes tr
  pub written : Out check f tr text
  pub truth : ((status ≡ 0) × HoldsAtStart f tr) ⊎ ((status ≡ 1) × (¬ HoldsAtStart f tr))

-- the bytes are those of a trace, and the text is that of `check` for it without the last part
pub record IsCutOff (f : Formula) (bytes text : List ℕ) : Type 0 where
  pub tr : Trace
  pub trace : IsWhole whole_limits f bytes tr
  pub rest : List ℕ
  pub missing : rest ≢ []
  pub written : Out check f tr (text ++ rest)

-- 3 comes only where the words ask for a text that is refused
abbrev pub IsBadRightly : List (List ℕ) → ℕ → Type 0
IsBadRightly words status = status ≡ 3 → (line : List ℕ) × AskForBad words line

-- where the words ask for a text that is refused, 3 comes, if memory is not wanting
abbrev pub IsBadWhereDue : List (List ℕ) → ℕ → Type 0
IsBadWhereDue words status = (line : List ℕ) → AskForBad words line → (status ≡ 3) ⊎ (status ≡ 7)

-- 4 comes only where the bytes that were read have a first fault for the formula
abbrev pub IsRefusedRightly : List (List ℕ) → Option (List ℕ) → Option (List ℕ) → Bool → ℕ → Type 0
IsRefusedRightly words left left_after ended status =
    status ≡ 4 → (f : Formula) (bytes : List ℕ) → AskFor words f → Drew left left_after bytes → (x : Fault) × IsInputFault whole_limits f bytes ended x

-- where the bytes that were read have one, 4 comes, if memory is not wanting
abbrev pub IsRefusedWhereDue : List (List ℕ) → Option (List ℕ) → Option (List ℕ) → Bool → ℕ → Type 0
IsRefusedWhereDue words left left_after ended status =
    (f : Formula) (bytes : List ℕ) (x : Fault) → AskFor words f → Drew left left_after bytes → IsInputFault whole_limits f bytes ended x
    → (status ≡ 4) ⊎ (status ≡ 7)

-- where the words ask for a formula, the source holds the bytes of a trace for it and no device fails, there is an answer, if memory is not wanting
abbrev pub IsAnsweredWhereDue : List (List ℕ) → Option (List ℕ) → ℕ → ℕ → ℕ → ℕ → ℕ → Type 0
IsAnsweredWhereDue words left faults faults_after out_faults out_faults_after status =
    (f : Formula) (bytes : List ℕ) → AskFor words f → left ≡ Some bytes → IsSound whole_limits f bytes true
    → (¬ Rose faults faults_after) → (¬ Rose out_faults out_faults_after) → (status ≤ 1) ⊎ (status ≡ 7)

-- 0 and 1 tell the truth at the start, and the whole text was written
abbrev pub IsAnsweredRightly : List (List ℕ) → Option (List ℕ) → Option (List ℕ) → Option (List ℕ) → Option (List ℕ) → ℕ → Type 0
IsAnsweredRightly words left left_after held held_after status =
    status ≤ 1 → (f : Formula) (bytes text : List ℕ) → AskFor words f → Drew left left_after bytes → Got held held_after text
    → IsChecked f bytes text status

-- on 6 the text was written without its last part
abbrev pub IsCutOffRightly : List (List ℕ) → Option (List ℕ) → Option (List ℕ) → Option (List ℕ) → Option (List ℕ) → ℕ → Type 0
IsCutOffRightly words left left_after held held_after status =
    status ≡ 6 → (f : Formula) (bytes text : List ℕ) → AskFor words f → Drew left left_after bytes → Got held held_after text
    → IsCutOff f bytes text

-- the line on the error stream for each status
pub data IsErrLine (words : List (List ℕ)) (left left_after : Option (List ℕ)) (ended : Bool) : ℕ → List ℕ → Type 0 where
  nothing : {status : ℕ} → status ≤ 1 → IsErrLine words left left_after ended status []
  no_form : IsErrLine words left left_after ended 2 usage_line
  bad_text : {line : List ℕ} → AskForBad words line → IsErrLine words left left_after ended 3 line
  first_fault : {line : List ℕ}
      → ((f : Formula) (bytes : List ℕ) → AskFor words f → Drew left left_after bytes
      → (x : Fault) × IsInputFault whole_limits f bytes ended x × (line ≡ fault_text x))
      → IsErrLine words left left_after ended 4 line
  unread : IsErrLine words left left_after ended 5 read_fault
  unwritten : IsErrLine words left left_after ended 6 write_fault
  no_memory : IsErrLine words left left_after ended 7 out_of_memory

-- the message is the first part of the line, and all of it where the count of faults did not rise
pub record IsMessage (line message : List ℕ) (before after : ℕ) : Type 0 where
  pub rest : List ℕ
  pub parts : line ≡ message ++ rest
  pub complete : (¬ Rose before after) → rest ≡ []

-- what was written to the error stream is the status' line, or its first part where a fault was counted
abbrev pub IsSaidRightly : List (List ℕ) → Option (List ℕ) → Option (List ℕ) → Bool → Option (List ℕ) → Option (List ℕ) → ℕ → ℕ → ℕ → Type 0
IsSaidRightly words left left_after ended said said_after faults faults_after status =
    (message : List ℕ) → Got said said_after message
    → (line : List ℕ) × IsErrLine words left left_after ended status line × IsMessage line message faults faults_after
