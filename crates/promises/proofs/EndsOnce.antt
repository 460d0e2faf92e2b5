-- The end was asked for once.
use Rattle.std.proofs.Common.{◌≡◌, ◌≢◌, ◌⊎◌, inl, inr, ℕ, ◌≤◌, Bool, true, List, arith, refl, sym, ◌∙◌, subst}
use Rattle.io_edge.specs.Causes.{next_count, after_end}
use Rattle.io_edge.specs.Calls.{Drained, Filled, IsAskedOnce}
use Rattle.stl_syntax.specs.Formula.{Formula}
use Rattle.report.specs.Report.{Command}
use Rattle.workbench.specs.Requests.{Request, no_form, refused, whole, stream, sessions, generated, Asks, has_input}
use Rattle.workbench.specs.Ended.{faulty, answered, wide, overfull, IsAnswered}
use Rattle.workbench.specs.Running.{IsEnd, by_itself, unread, unwritten, no_memory, HasEnded, asked, unknown, HasSaidItsEnd}
use Rattle.promises.proofs.Due.{begun_sound}
use Rattle.promises.proofs.OneRequest.{one_request}

said_once : (i : Drained) → i.ended ≡ true → IsAskedOnce i → HasSaidItsEnd i
said_once i ended once = (ended, once ∙ (let e = ended in subst (λ (b : Bool). after_end b i.ends ≡ next_count i.ends) (sym ended) refl))

answer_ended : (request : Request) (bytes text : List ℕ) (ended : Bool) (status : ℕ) → has_input request ≡ true
    → IsAnswered request bytes ended status text → ended ≡ true
answer_ended no_form bytes text ended status has is = absurd is
answer_ended (refused line) bytes text ended status has is = absurd is
answer_ended (whole c f) bytes text ended status has is = is.0
answer_ended (stream s f) bytes text ended status has is = is.0
answer_ended (sessions f) bytes text ended status has is = is.0
answer_ended (generated n rows) bytes text ended status has is = absurd (let k = has in cc)

-- an answer came after the end
small_end : (request : Request) (i : Drained) (o : Filled) (bytes text line : List ℕ) (status : ℕ) → has_input request ≡ true
    → status ≤ 1 → IsEnd request i o bytes text status line → i.ended ≡ true
small_end request i o bytes text line status has small (by_itself (answered is)) = answer_ended request bytes text i.ended status has is
small_end request i o bytes text line _ has small end = absurd (omega (arith, small))

-- so did 6, 8 and 9 of a command that holds the trace
whole_end : (c : Command) (f : Formula) (i : Drained) (o : Filled) (bytes text line : List ℕ) (status : ℕ)
    → (status ≡ 6) ⊎ (8 ≤ status) → IsEnd (whole c f) i o bytes text status line → i.ended ≡ true
whole_end c f i o bytes text line _ late (by_itself (faulty fault prompt owed)) =
    elim late [ inl e ↦ absurd (omega (arith, e)) | inr e ↦ absurd (omega (arith, e)) ]
whole_end c f i o bytes text line _ late (by_itself (answered (ended, is))) = ended
whole_end c f i o bytes text line _ late (by_itself (wide n den (ended, e, is))) = ended
whole_end c f i o bytes text line _ late (by_itself (overfull n (ended, is))) = ended
whole_end c f i o bytes text line _ late (unread input ended failed sound owed) =
    elim late [ inl e ↦ absurd (omega (arith, e)) | inr e ↦ absurd (omega (arith, e)) ]
whole_end c f i o bytes text line _ late (unwritten rest some failed begun) = (begun_sound c f bytes text rest i.ended some begun).0
whole_end c f i o bytes text line _ late (no_memory known begun) = elim late [ inl e ↦ absurd (omega (arith, e)) | inr e ↦ absurd (omega (arith, e)) ]

-- in a run that is answered
pub answered_once : (words : List (List ℕ)) (request : Request) → Asks words request → has_input request ≡ true
    → (i : Drained) (o : Filled) {bytes text line : List ℕ} {status : ℕ} → status ≤ 1
    → HasEnded words i o bytes text status line → HasSaidItsEnd i
answered_once words request ask has i o {bytes} {text} {line} {status} small (asked other a nothing at pace end) =
    let same = one_request words other request a ask in
    let input : has_input other ≡ true = subst (λ (r : Request). has_input r ≡ true) (sym same) has in
    let ended = small_end other i o bytes text line status input small end in
    said_once i ended (at (λ k. omega (arith, k, small)) input).once
answered_once words request ask has i o small (unknown some nothing) = absurd (omega (arith, small))

not_seven : (status : ℕ) → (status ≡ 6) ⊎ (8 ≤ status) → status ≢ 7
not_seven status (inl e) k = omega (arith, e, k)
not_seven status (inr e) k = omega (arith, e, k)

-- and in one of a command that holds the trace and ends late
pub late_once : (words : List (List ℕ)) (c : Command) (f : Formula) → Asks words (whole c f)
    → (i : Drained) (o : Filled) {bytes text line : List ℕ} {status : ℕ} → (status ≡ 6) ⊎ (8 ≤ status)
    → HasEnded words i o bytes text status line → HasSaidItsEnd i
late_once words c f ask i o {bytes} {text} {line} {status} late (asked other a nothing at pace end) =
    let same = one_request words other (whole c f) a ask in
    let ended = whole_end c f i o bytes text line status late (subst (λ (r : Request). IsEnd r i o bytes text status line) same end) in
    said_once i ended (at (not_seven status late) (subst (λ (r : Request). has_input r ≡ true) (sym same) refl)).once
late_once words c f ask i o late (unknown some nothing) = absurd (not_seven 7 late refl)
