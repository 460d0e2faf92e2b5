-- A request with input ends in one way, but for refusals for a denominator.
use Rattle.std.proofs.Common.{◌≡◌, ◌≢◌, ℕ, true, false, List, [], refl, sym, ap, ◌∙◌, subst, Some}
use Rattle.stl_syntax.specs.Formula.{Formula}
use Rattle.stl_syntax.specs.Kept.{most_cells}
use Rattle.stl_syntax.specs.Trace.{Trace}
use Rattle.implicants.proofs.NodeCounts.{one_too_many}
use Rattle.stl_syntax.specs.Scaling.{nodes_for}
use Rattle.answer_lines.specs.FaultTexts.{fault_text}
use Rattle.report.specs.Report.{Command, check, robust, explain, json, table}
use Rattle.trace_reader.proofs.TraceRefusalLaw.{Trace-unique}
use Rattle.trace_reader.specs.InputFaults.{whole_limits, sound}
use Rattle.trace_reader.specs.TraceText.{lines}
use Rattle.trace_reader.specs.declared.refusal.Limits.{Limits}
use Rattle.trace_stream.proofs.OneFault.{one_fault}
use Rattle.trace_stream.proofs.OwedRows.{stream_owed_once}
use Rattle.trace_stream.specs.CaseReader.{IsWhole}
use Rattle.session_laws.proofs.OwedLines.{input_fault_once, lines_owed_once}
use Rattle.session_mux.specs.Inputs.{input_fault_text}
use Rattle.promises.proofs.CompleteRuns.{truth_once}
use Rattle.promises.proofs.OwedLaws.{check_owed_once, robust_owed_once, explain_owed_once, json_owed_once, table_owed_once}
use Rattle.workbench.specs.Requests.{Request, no_form, refused, whole, stream, sessions, generated, has_input, Stream, verdicts, early, margins}
use Rattle.workbench.specs.Owed.{limits_of, OwesAtEnd, at_end, Owes, HasTooMany}
use Rattle.workbench.specs.Ended.{IsVerdict, IsLastVerdict, HasFault, IsAnswered, IsOverfull}
use Rattle.command_line.specs.ErrTexts.{too_many_cells_text}
use Rattle.run_laws.proofs.Endings.{IsEnding, at_fault, answer, too_wide, too_full}

-- ---- what is owed, and the line of a fault

whole_owed_once : (c : Command) (f : Formula) (bytes x y : List ℕ) → OwesAtEnd c f bytes true x → OwesAtEnd c f bytes true y → x ≡ y
whole_owed_once check f bytes x y a b = check_owed_once f bytes true x y a b
whole_owed_once robust f bytes x y a b = robust_owed_once f bytes true x y a b
whole_owed_once explain f bytes x y a b = explain_owed_once f bytes true x y a b
whole_owed_once json f bytes x y a b = json_owed_once f bytes true x y a b
whole_owed_once table f bytes x y a b = table_owed_once f bytes true x y a b

-- a request with input is owed one text for all bytes
pub owed_once : (request : Request) (bytes x y : List ℕ) → has_input request ≡ true → Owes request bytes true x → Owes request bytes true y → x ≡ y
owed_once no_form bytes x y has a b = a ∙ sym b
owed_once (refused line) bytes x y has a b = a ∙ sym b
owed_once (whole c f) bytes x y has a b = whole_owed_once c f bytes x y a b
owed_once (stream s f) bytes x y has a b = stream_owed_once s f bytes true x y a b
owed_once (sessions f) bytes x y has a b = lines_owed_once f bytes true x y a b
owed_once (generated n rows) bytes x y has a b = absurd (let k : false ≡ true = has in cc)

-- a first fault is told by one line
pub fault_line_once : (request : Request) (bytes line other : List ℕ) → HasFault request bytes true line → HasFault request bytes true other → line ≡ other
fault_line_once no_form bytes line other a b = absurd a
fault_line_once (refused l) bytes line other a b = absurd a
fault_line_once (whole c f) bytes line other (x, fault, e) (y, also, k) = e ∙ ap fault_text (one_fault whole_limits f bytes true x y fault also) ∙ sym k
fault_line_once (stream s f) bytes line other (x, fault, e) (y, also, k) =
    e ∙ ap fault_text (one_fault (limits_of s) f bytes true x y fault also) ∙ sym k
fault_line_once (sessions f) bytes line other (x, fault, e) (y, also, k) =
    e ∙ ap input_fault_text (input_fault_once 1 [] (lines true bytes) x y fault also) ∙ sym k
fault_line_once (generated n rows) bytes line other a b = absurd a

-- ---- answers

-- an answer is the text that is owed
pub answer_is_owed : (request : Request) (bytes text : List ℕ) (status : ℕ) → has_input request ≡ true → IsAnswered request bytes true status text
    → Owes request bytes true text
answer_is_owed no_form bytes text status has h = absurd h
answer_is_owed (refused line) bytes text status has h = absurd h
answer_is_owed (whole c f) bytes text status has (e, h) = at_end h.tr h.trace h.few h.written
answer_is_owed (stream s f) bytes text status has (e, h) = record {
  header = Some h.tr.header;
  rows = h.tr.rows;
  whole = true;
  before = sound h.trace.sound h.trace.trace.text.read;
  is = h.written;
}
answer_is_owed (sessions f) bytes text status has h = h.2
answer_is_owed (generated n rows) bytes text status has h = h.1

-- what was answered has no fault
pub answered_sound : (request : Request) (bytes text line : List ℕ) (status : ℕ) → IsAnswered request bytes true status text
    → ¬ HasFault request bytes true line
answered_sound no_form bytes text line status h k = k
answered_sound (refused l) bytes text line status h k = k
answered_sound (whole c f) bytes text line status (e, h) (x, fault, is) = h.trace.sound x fault
answered_sound (stream s f) bytes text line status (e, h) (x, fault, is) = h.trace.sound x fault
answered_sound (sessions f) bytes text line status h (x, fault, is) = h.3 x fault
answered_sound (generated n rows) bytes text line status h k = k

-- ---- the status

verdict_once : (c : Command) (f : Formula) (tr : Trace) (m n : ℕ) → IsVerdict c f tr m → IsVerdict c f tr n → m ≡ n
verdict_once check f tr m n a b = truth_once f tr m n a b
verdict_once robust f tr m n a b = a ∙ sym b
verdict_once explain f tr m n a b = truth_once f tr m n a b
verdict_once json f tr m n a b = truth_once f tr m n a b
verdict_once table f tr m n a b = a ∙ sym b

last_once : (s : Stream) (f : Formula) (tr : Trace) (m n : ℕ) → IsLastVerdict s f tr m → IsLastVerdict s f tr n → m ≡ n
last_once verdicts f tr m n a b = truth_once f tr m n a b
last_once early f tr m n a b = truth_once f tr m n a b
last_once margins f tr m n a b = a ∙ sym b

trace_once : (limits : Limits) (f : Formula) (bytes : List ℕ) (t u : Trace) → IsWhole limits f bytes t → IsWhole limits f bytes u → t ≡ u
trace_once limits f bytes t u a b = Trace-unique bytes f.scale t u a.trace.text b.trace.text

-- one status is answered
pub status_once : (request : Request) (bytes x y : List ℕ) (m n : ℕ) → IsAnswered request bytes true m x → IsAnswered request bytes true n y → m ≡ n
status_once no_form bytes x y m n a b = absurd a
status_once (refused line) bytes x y m n a b = absurd a
status_once (whole c f) bytes x y m n (e, a) (d, b) =
    let same = trace_once whole_limits f bytes a.tr b.tr a.trace b.trace in
    verdict_once c f b.tr m n (subst (λ (t : Trace). IsVerdict c f t m) same a.verdict) b.verdict
status_once (stream s f) bytes x y m n (e, a) (d, b) =
    let same = trace_once (limits_of s) f bytes a.tr b.tr a.trace b.trace in
    last_once s f b.tr m n (subst (λ (t : Trace). IsLastVerdict s f t m) same a.verdict) b.verdict
status_once (sessions f) bytes x y m n a b = a.1 ∙ sym b.1
status_once (generated k rows) bytes x y m n a b = a.0 ∙ sym b.0

-- ---- too many cells

-- what has too many cells has no fault
overfull_sound : (request : Request) (bytes line : List ℕ) (count : ℕ) → IsOverfull request bytes true count → ¬ HasFault request bytes true line
overfull_sound no_form bytes line count h k = k
overfull_sound (refused l) bytes line count h k = k
overfull_sound (whole c f) bytes line count (e, (tr, is, many)) (x, fault, d) = is.sound x fault
overfull_sound (stream s f) bytes line count h k = h
overfull_sound (sessions f) bytes line count h k = h
overfull_sound (generated n rows) bytes line count h k = h

-- nor an answer
overfull_unanswered : (request : Request) (bytes text : List ℕ) (count status : ℕ) → IsOverfull request bytes true count
    → ¬ IsAnswered request bytes true status text
overfull_unanswered no_form bytes text count status h k = k
overfull_unanswered (refused l) bytes text count status h k = k
overfull_unanswered (whole c f) bytes text count status (e, (tr, is, many)) (d, a) =
    a.few count (subst (λ (t : Trace). HasTooMany c f t count) (trace_once whole_limits f bytes tr a.tr is a.trace) many)
overfull_unanswered (stream s f) bytes text count status h k = h
overfull_unanswered (sessions f) bytes text count status h k = h
overfull_unanswered (generated n rows) bytes text count status h k = h

many_once : (c : Command) (f : Formula) (tr : Trace) (m n : ℕ) → HasTooMany c f tr m → HasTooMany c f tr n → m ≡ n
many_once check f tr m n a b = absurd a
many_once robust f tr m n a b = absurd a
many_once explain f tr m n a b = one_too_many (nodes_for f tr) tr most_cells m n a.many b.many
many_once json f tr m n a b = one_too_many (nodes_for f tr) tr most_cells m n a.many b.many
many_once table f tr m n a b = absurd a

-- the count that is told is one
overfull_once : (request : Request) (bytes : List ℕ) (m n : ℕ) → IsOverfull request bytes true m → IsOverfull request bytes true n → m ≡ n
overfull_once no_form bytes m n a b = absurd a
overfull_once (refused l) bytes m n a b = absurd a
overfull_once (whole c f) bytes m n (e, (tr, is, many)) (d, (tr', is', many')) =
    many_once c f tr' m n (subst (λ (t : Trace). HasTooMany c f t m) (trace_once whole_limits f bytes tr tr' is is') many) many'
overfull_once (stream s f) bytes m n a b = absurd a
overfull_once (sessions f) bytes m n a b = absurd a
overfull_once (generated k rows) bytes m n a b = absurd a

-- ---- endings

-- two endings are one
pub record AreOne (m n : ℕ) (line other text said : List ℕ) : Type 0 where
  -- by the status
  pub status : m ≡ n
  -- by the line
  pub lines : line ≡ other
  -- and by the text
  pub texts : text ≡ said

-- a request ends in one way over given bytes, but for refusals for a denominator
pub one_ending : (request : Request) (bytes : List ℕ) {m n : ℕ} {line other text said : List ℕ} → has_input request ≡ true → m ≢ 8 → n ≢ 8
    → IsEnding request bytes m line text → IsEnding request bytes n other said → AreOne m n line other text said
one_ending request bytes has p q (too_wide read left ended i den e at h) b = absurd (p refl)
one_ending request bytes has p q (at_fault h owed) (too_wide read left ended i den e at k) = absurd (q refl)
one_ending request bytes has p q (answer h) (too_wide read left ended i den e at k) = absurd (q refl)
one_ending request bytes has p q (too_full count h) (too_wide read left ended i den e at k) = absurd (q refl)
one_ending request bytes has p q (at_fault {line = line} {text = text} h owed) (at_fault {line = other} {text = said} k due) =
    record { status = refl; lines = fault_line_once request bytes line other h k; texts = owed_once request bytes text said has owed due }
one_ending request bytes has p q (at_fault {line = line} h owed) (answer {status = n} {text = said} k) =
    absurd (answered_sound request bytes said line n k h)
one_ending request bytes has p q (at_fault {line = line} h owed) (too_full count k) = absurd (overfull_sound request bytes line count k h)
one_ending request bytes has p q (answer {status = m} {text = text} h) (at_fault {line = line} k due) =
    absurd (answered_sound request bytes text line m h k)
one_ending request bytes has p q (answer {status = m} {text = text} h) (answer {status = n} {text = said} k) = record {
  status = status_once request bytes text said m n h k;
  lines = refl;
  texts = owed_once request bytes text said has (answer_is_owed request bytes text m has h) (answer_is_owed request bytes said n has k);
}
one_ending request bytes has p q (answer {status = m} {text = text} h) (too_full count k) = absurd (overfull_unanswered request bytes text count m k h)
one_ending request bytes has p q (too_full count h) (at_fault {line = line} k due) = absurd (overfull_sound request bytes line count h k)
one_ending request bytes has p q (too_full count h) (answer {status = n} {text = said} k) = absurd (overfull_unanswered request bytes said count n h k)
one_ending request bytes has p q (too_full count h) (too_full more k) =
    record { status = refl; lines = ap too_many_cells_text (overfull_once request bytes count more h k); texts = refl }
