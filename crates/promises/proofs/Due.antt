-- Where the bytes have a fault, a run ends with 4, or for a reason that comes before it.
use Rattle.std.proofs.Common.{◌≡◌, ◌≢◌, ◌⊎◌, inl, inr, ℕ, ◌≤◌, arith, Bool, true, false, List, [], ◌++◌, refl, sym, ap, ◌∙◌, subst, append-nil}
use Rattle.std.proofs.lemmas.Bool.{false≢true}
use Rattle.rational.proofs.Lists.{append_some}
use Rattle.io_edge.specs.Calls.{Drained, Filled, HasFailed, HasRefused}
use Rattle.stl_syntax.specs.Trace.{Trace}
use Rattle.stl_syntax.specs.Formula.{Formula}
use Rattle.report.specs.Report.{Command, check, robust, explain, json, table}
use Rattle.workbench.specs.Requests.{Request, no_form, refused, whole, stream, sessions, generated, Stream, verdicts, early, margins, has_input}
use Rattle.workbench.specs.Owed.{OwesAtEnd, not_yet, faulty as faulty_at_end, too_many, at_end}
use Rattle.workbench.specs.Ended.{IsVerdict, IsLastVerdict, IsAnswered, HasFault, none, bad, faulty, answered, wide, overfull}
use Rattle.workbench.specs.Running.{IsBegun, IsEnd, by_itself, unread, unwritten, no_memory}
use Rattle.workbench.specs.InputFaults.{whole_limits, IsInputFault}
use Rattle.promises.proofs.CompleteRuns.{truth_status}
use Rattle.trace_stream.specs.CaseReader.{IsSound}

-- bytes without a fault, all of them
sound_all : (c : Command) (f : Formula) (bytes line : List ℕ) (ended : Bool) → ended ≡ true → IsSound whole_limits f bytes true
    → ¬ HasFault (whole c f) bytes ended line
sound_all c f bytes line ended e sound (x, fault, said) = sound x (subst (λ (b : Bool). IsInputFault whole_limits f bytes b x) e fault)

-- a part of a text was owed only for a whole trace
pub begun_sound : (c : Command) (f : Formula) (bytes text rest : List ℕ) (ended : Bool) → rest ≢ []
    → IsBegun (whole c f) bytes ended text rest → (ended ≡ true) × IsSound whole_limits f bytes true
begun_sound c f bytes text rest ended some b = by_owed b.seen b.seen_end (text ++ rest) refl refl refl b.owed
  where
    by_owed : (seen : List ℕ) (e : Bool) (all : List ℕ) → b.seen ≡ seen → b.seen_end ≡ e → text ++ rest ≡ all
        → OwesAtEnd c f seen e all → (ended ≡ true) × IsSound whole_limits f bytes true
    by_owed seen false all p q s not_yet = absurd (append_some text rest some s)
    by_owed seen true all p q s (faulty_at_end x fault) = absurd (append_some text rest some s)
    by_owed seen true all p q s (too_many tr n trace many) = absurd (append_some text rest some s)
    by_owed seen true all p q s (at_end tr trace few written) =
        let all_read = b.at_end q in
        let same : bytes ≡ seen = b.parts ∙ ap (λ l. b.seen ++ l) all_read.1 ∙ append-nil b.seen ∙ p in
        (all_read.0, subst (λ bs. IsSound whole_limits f bs true) (sym same) trace.sound)

-- for every command that holds the whole trace
pub fault_due : (c : Command) (f : Formula) (i : Drained) (o : Filled) (bytes text line said : List ℕ) (status : ℕ)
    → IsEnd (whole c f) i o bytes text status said → HasFault (whole c f) bytes i.ended line
    → (status ≡ 4) ⊎ (status ≡ 7)
fault_due c f i o bytes text line said _ (by_itself (faulty fault prompt owed)) h = inl refl
fault_due c f i o bytes text line said _ (by_itself (answered (ended, is))) h = absurd (sound_all c f bytes line i.ended ended is.trace.sound h)
fault_due c f i o bytes text line said _ (by_itself (wide n den (ended, e, is))) h = absurd (sound_all c f bytes line i.ended ended is.trace.sound h)
fault_due c f i o bytes text line said _ (by_itself (overfull n (ended, (tr, trace, many)))) h = absurd (sound_all c f bytes line i.ended ended trace.sound h)
fault_due c f i o bytes text line said _ (unread has ended failed sound owed) h =
    absurd (sound line (subst (λ (b : Bool). HasFault (whole c f) bytes b line) ended h))
fault_due c f i o bytes text line said _ (unwritten rest some failed begun) h =
    let b = begun_sound c f bytes text rest i.ended some begun in
    absurd (sound_all c f bytes line i.ended b.0 b.1 h)
fault_due c f i o bytes text line said _ (no_memory known begun) h = inr refl

small_verdict : (c : Command) (f : Formula) (tr : Trace) (status : ℕ) → IsVerdict c f tr status → status ≤ 1
small_verdict check f tr status h = truth_status f tr status h
small_verdict robust f tr status h = omega (arith, h)
small_verdict explain f tr status h = truth_status f tr status h
small_verdict json f tr status h = truth_status f tr status h
small_verdict table f tr status h = omega (arith, h)

small_last : (s : Stream) (f : Formula) (tr : Trace) (status : ℕ) → IsLastVerdict s f tr status → status ≤ 1
small_last verdicts f tr status h = truth_status f tr status h
small_last early f tr status h = truth_status f tr status h
small_last margins f tr status h = omega (arith, h)

-- a request that is answered ends with 0 or 1
pub small_answer : (request : Request) (bytes text : List ℕ) (ended : Bool) (status : ℕ) → IsAnswered request bytes ended status text → status ≤ 1
small_answer no_form bytes text ended status is = absurd is
small_answer (refused line) bytes text ended status is = absurd is
small_answer (whole c f) bytes text ended status is = small_verdict c f is.1.tr status is.1.verdict
small_answer (stream s f) bytes text ended status is = small_last s f is.1.tr status is.1.verdict
small_answer (sessions f) bytes text ended status is = let a = is.1 in omega (arith, a)
small_answer (generated n rows) bytes text ended status is = let a = is.0 in omega (arith, a)

-- without a fault of the bytes and of the devices there is an answer, a refusal by the formula's numbers, or want of memory
pub answer_due : (request : Request) (i : Drained) (o : Filled) (bytes text line : List ℕ) (status : ℕ)
    → IsEnd request i o bytes text status line → has_input request ≡ true
    → ((l : List ℕ) → ¬ HasFault request bytes i.ended l) → (¬ HasFailed i) → (¬ HasRefused o) → (status ≤ 1) ⊎ (7 ≤ status)
answer_due request i o bytes text line status (by_itself none) has clean calm quiet = absurd (false≢true has)
answer_due request i o bytes text line status (by_itself bad) has clean calm quiet = absurd (false≢true has)
answer_due request i o bytes text line status (by_itself (faulty fault prompt owed)) has clean calm quiet = absurd (clean line fault)
answer_due request i o bytes text line status (by_itself (answered is)) has clean calm quiet = inl (small_answer request bytes text i.ended status is)
answer_due request i o bytes text line status (by_itself (wide n den is)) has clean calm quiet = inr (omega arith)
answer_due request i o bytes text line status (by_itself (overfull n is)) has clean calm quiet = inr (omega arith)
answer_due request i o bytes text line status (unread input ended failed sound owed) has clean calm quiet = absurd (calm failed)
answer_due request i o bytes text line status (unwritten rest some failed begun) has clean calm quiet = absurd (quiet failed)
answer_due request i o bytes text line status (no_memory known begun) has clean calm quiet = inr (omega arith)
