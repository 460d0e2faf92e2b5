-- A run that nothing disturbs is complete.
use Rattle.std.proofs.Common.{◌≡◌, ◌≢◌, inl, inr, ℕ, ◌≤◌, Bool, true, false, List, [], ◌++◌}
use Rattle.std.proofs.Common.{refl, sym, ap, ◌∙◌, subst, arith, append-nil, Option, Some, None}
use Rattle.std.specs.Io.KnownBytes.{Appends, Consumes, IsAtEnd}
use Rattle.std.proofs.lemmas.Bool.{false≢true}
use Rattle.io_edge.specs.Calls.{Drained, Filled, HasFailed, HasRefused}
use Rattle.stl_syntax.specs.Formula.{Formula}
use Rattle.stl_syntax.specs.Trace.{Trace}
use Rattle.trace_reader.specs.TraceText.{lines}
use Rattle.trace_reader.specs.declared.refusal.Limits.{Limits}
use Rattle.report.specs.Report.{Command, check, robust, explain, json, table}
use Rattle.workbench.specs.Requests.{Stream, verdicts, early, margins, Request, no_form, refused, whole, stream, sessions, generated, Asks, has_input}
use Rattle.workbench.specs.InputFaults.{Fault, whole_limits, IsInputFault}
use Rattle.workbench.specs.Owed.{limits_of, HasTooMany, OwesLines}
use Rattle.workbench.specs.Sessions.{InputFault, FaultOfInput}
use Rattle.trace_stream.specs.CaseReader.{IsSound, IsWhole}
use Rattle.workload_summary.specs.Generator.{IsSummary}
use Rattle.workbench.specs.Ended.{TellsTruth, IsVerdict, IsLastVerdict, HasFault, IsAnswered, IsAnsweredWhole}
use Rattle.workbench.specs.Ended.{IsAnsweredByRow, IsWide, IsOverfull, EndsWith, none, bad, faulty, answered, wide}
use Rattle.workbench.specs.Ended.{overfull}
use Rattle.workbench.specs.Running.{IsEnd, by_itself, unread, unwritten, no_memory, IsReadOut, HasEnded, asked, unknown, IsRun}
use Rattle.promises.specs.Complete.{AreFit, IsUndisturbed, IsComplete, answered as complete_answer, wide as complete_wide}
use Rattle.promises.specs.Complete.{overfull as complete_overfull, no_memory as complete_starved, IsOwnStatus, IsCompleteRun}
use Rattle.trace_stream.proofs.FaultsStay.{unsound}
use Rattle.session_mux.proofs.FrontLines.{input_fault_stays}
use Rattle.promises.proofs.OneRequest.{one_request}

-- the bytes that were there are those that were consumed, and the others
pub rest_of : (before after : Option (List ℕ)) (bytes read : List ℕ) → before ≡ Some bytes → Consumes before after read
    → (left : List ℕ) × (after ≡ Some left) × (bytes ≡ read ++ left)
rest_of None after bytes read e h = absurd (let k = e in cc)
rest_of (Some xs) None bytes read e h = absurd h
rest_of (Some xs) (Some ys) bytes read e h = (ys, refl, (let k : bytes ≡ xs = (let j = e in cc) in k) ∙ h)

-- the truth has status 0 or 1
pub truth_status : (f : Formula) (tr : Trace) (status : ℕ) → TellsTruth f tr status → status ≤ 1
truth_status f tr status (inl h) = let a = h.0 in omega (arith, a)
truth_status f tr status (inr h) = let a = h.0 in omega (arith, a)

-- and one status
pub truth_once : (f : Formula) (tr : Trace) (status other : ℕ) → TellsTruth f tr status → TellsTruth f tr other → status ≡ other
truth_once f tr status other (inl a) (inl b) = a.0 ∙ sym b.0
truth_once f tr status other (inl a) (inr b) = absurd (b.1 a.1)
truth_once f tr status other (inr a) (inl b) = absurd (a.1 b.1)
truth_once f tr status other (inr a) (inr b) = a.0 ∙ sym b.0

-- the status of an answer is the command's own
verdict_own : (c : Command) (f : Formula) (tr : Trace) (status : ℕ) → IsVerdict c f tr status → (status ≤ 1) × IsOwnStatus (whole c f) status
verdict_own check f tr status v = let h = truth_status f tr status v in (h, inl h)
verdict_own robust f tr status v = let e = v in (omega (arith, e), inl v)
verdict_own explain f tr status v = let h = truth_status f tr status v in (h, inl h)
verdict_own json f tr status v = let h = truth_status f tr status v in (h, inl h)
verdict_own table f tr status v = let e = v in (omega (arith, e), inl v)

last_own : (s : Stream) (f : Formula) (tr : Trace) (status : ℕ) → IsLastVerdict s f tr status → (status ≤ 1) × IsOwnStatus (stream s f) status
last_own verdicts f tr status v = let h = truth_status f tr status v in (h, inl h)
last_own early f tr status v = let h = truth_status f tr status v in (h, inl h)
last_own margins f tr status v = let e = v in (omega (arith, e), inl v)

-- the status of want of memory is each one's own
starved_own : (request : Request) (bytes : List ℕ) → AreFit request bytes → IsOwnStatus request 7
starved_own no_form bytes fit = fit
starved_own (refused line) bytes fit = fit
starved_own (whole check f) bytes fit = inr refl
starved_own (whole robust f) bytes fit = inr (inl refl)
starved_own (whole explain f) bytes fit = inr (inl refl)
starved_own (whole json f) bytes fit = inr (inl refl)
starved_own (whole table f) bytes fit = inr (inl refl)
starved_own (stream verdicts f) bytes fit = inr refl
starved_own (stream early f) bytes fit = inr refl
starved_own (stream margins f) bytes fit = inr (inl refl)
starved_own (sessions f) bytes fit = inr refl
starved_own (generated number rows) bytes fit = inr refl

-- what is too wide, or has too many cells, is so for commands that may say it
wide_own : (request : Request) (bytes text : List ℕ) (ended : Bool) (i den : ℕ) → IsWide request bytes ended i den text → IsOwnStatus request 8
wide_own no_form bytes text ended i den w = w
wide_own (refused line) bytes text ended i den w = w
wide_own (whole check f) bytes text ended i den (e, t, w) = absurd w.cause
wide_own (whole robust f) bytes text ended i den w = inr (inr refl)
wide_own (whole explain f) bytes text ended i den (e, t, w) = absurd w.cause
wide_own (whole json f) bytes text ended i den w = inr (inr (inl refl))
wide_own (whole table f) bytes text ended i den w = inr (inr refl)
wide_own (stream verdicts f) bytes text ended i den w = absurd w
wide_own (stream early f) bytes text ended i den w = absurd w
wide_own (stream margins f) bytes text ended i den w = inr (inr refl)
wide_own (sessions f) bytes text ended i den w = absurd w
wide_own (generated number rows) bytes text ended i den w = absurd w

overfull_own : (request : Request) (bytes : List ℕ) (ended : Bool) (count : ℕ) → IsOverfull request bytes ended count → IsOwnStatus request 9
overfull_own no_form bytes ended count h = h
overfull_own (refused line) bytes ended count h = h
overfull_own (whole check f) bytes ended count (e, (t, is, many)) = absurd many
overfull_own (whole robust f) bytes ended count (e, (t, is, many)) = absurd many
overfull_own (whole explain f) bytes ended count h = inr (inr refl)
overfull_own (whole json f) bytes ended count h = inr (inr (inr refl))
overfull_own (whole table f) bytes ended count (e, (t, is, many)) = absurd many
overfull_own (stream verdicts f) bytes ended count h = absurd h
overfull_own (stream early f) bytes ended count h = absurd h
overfull_own (stream margins f) bytes ended count h = absurd h
overfull_own (sessions f) bytes ended count h = absurd h
overfull_own (generated number rows) bytes ended count h = absurd h

-- a fault of the bytes that were read is none of bytes that are fit
no_fault : (limits : Limits) (f : Formula) (read left : List ℕ) (ended : Bool) (x : Fault) → (ended ≡ true → left ≡ []) → IsSound limits f (read ++ left) true
    → IsInputFault limits f read ended x → ⊥
no_fault limits f read left false x at sound fault = unsound limits f read left x fault sound
no_fault limits f read left true x at sound fault =
    sound x (subst (λ b. IsInputFault limits f b true x) (sym (ap (λ l. read ++ l) (at refl) ∙ append-nil read)) fault)

-- nor is a fault of the lines that were read one of lines that have none
no_line_fault : (read left : List ℕ) (ended : Bool) (x : InputFault) → (ended ≡ true → left ≡ [])
    → ((y : InputFault) → ¬ FaultOfInput 1 [] (lines true (read ++ left)) y)
    → FaultOfInput 1 [] (lines ended read) x → ⊥
no_line_fault read left false x at sound fault = sound x (input_fault_stays read left true x fault)
no_line_fault read left true x at sound fault =
    sound x (subst (λ b. FaultOfInput 1 [] (lines true b) x) (sym (ap (λ l. read ++ l) (at refl) ∙ append-nil read)) fault)

fit_has_none : (request : Request) (read left line : List ℕ) (ended : Bool) → (ended ≡ true → left ≡ [])
    → AreFit request (read ++ left) → HasFault request read ended line → ⊥
fit_has_none no_form read left line ended at fit h = h
fit_has_none (refused l) read left line ended at fit h = h
fit_has_none (whole c f) read left line ended at fit (x, fault, e) = no_fault whole_limits f read left ended x at fit fault
fit_has_none (stream s f) read left line ended at fit (x, fault, e) = no_fault (limits_of s) f read left ended x at fit fault
fit_has_none (sessions f) read left line ended at fit (x, fault, e) = no_line_fault read left ended x at fit fault
fit_has_none (generated number rows) read left line ended at fit h = h

-- an answer is to all bytes
answer_own : (request : Request) (read left text : List ℕ) (ended : Bool) (status : ℕ) → (status ≢ 7 → ended ≡ true → left ≡ []) → AreFit request (read ++ left)
    → IsAnswered request read ended status text → IsOwnStatus request status × IsAnswered request (read ++ left) true status text
answer_own no_form read left text ended status at fit h = absurd fit
answer_own (refused line) read left text ended status at fit h = absurd fit
answer_own (whole c f) read left text ended status at fit (is_end, is) =
    let own = verdict_own c f is.tr status is.verdict in
    let low = own.0 in
    let none_left : left ≡ [] = at (λ k. let s = k in omega (arith, low, s)) is_end in
    let all : read ≡ read ++ left = sym (append-nil read) ∙ ap (λ l. read ++ l) (sym none_left) in
    (own.1, (refl, subst (λ b. IsAnsweredWhole c f b status text) all is))
answer_own (stream s f) read left text ended status at fit (is_end, is) =
    let own = last_own s f is.tr status is.verdict in
    let low = own.0 in
    let none_left : left ≡ [] = at (λ k. let s = k in omega (arith, low, s)) is_end in
    let all : read ≡ read ++ left = sym (append-nil read) ∙ ap (λ l. read ++ l) (sym none_left) in
    (own.1, (refl, subst (λ b. IsAnsweredByRow s f b status text) all is))
answer_own (sessions f) read left text ended status at fit (is_end, zero_is, owed, sound) =
    let none_left : left ≡ [] = at (λ k. let s = k in omega (arith, zero_is, s)) is_end in
    let all : read ≡ read ++ left = sym (append-nil read) ∙ ap (λ l. read ++ l) (sym none_left) in (
      inl zero_is,
      (refl, zero_is, subst (λ b. OwesLines f b true text) all owed, subst (λ b. (x : InputFault) → ¬ FaultOfInput 1 [] (lines true b) x) all sound),
    )
answer_own (generated number rows) read left text ended status at fit (zero_is, is) = (inl zero_is, (zero_is, is))

full_own : (request : Request) (read left : List ℕ) (ended : Bool) (count : ℕ) → (ended ≡ true → left ≡ []) → IsOverfull request read ended count
    → IsOverfull request (read ++ left) true count
full_own no_form read left ended count at h = absurd h
full_own (refused line) read left ended count at h = absurd h
full_own (whole c f) read left ended count at (is_end, is) =
    let all : read ≡ read ++ left = sym (append-nil read) ∙ ap (λ l. read ++ l) (sym (at is_end)) in
    (refl, subst (λ b. (tr : Trace) × IsWhole whole_limits f b tr × HasTooMany c f tr count) all is)
full_own (stream s f) read left ended count at h = absurd h
full_own (sessions f) read left ended count at h = absurd h
full_own (generated number rows) read left ended count at h = absurd h

-- a status of the command's own, and what came of all bytes
abbrev Own : Request → List ℕ → List ℕ → ℕ → Type 0
Own request bytes text status = IsOwnStatus request status × IsComplete request bytes text status

own_ends_with : (request : Request) (read left text line : List ℕ) (ended : Bool) (status : ℕ) → AreFit request (read ++ left)
    → (status ≢ 7 → ended ≡ true → left ≡ []) → EndsWith read ended request status line text → Own request (read ++ left) text status
own_ends_with request read left text line ended status fit at none = absurd fit
own_ends_with request read left text line ended status fit at bad = absurd fit
own_ends_with request read left text line ended status fit at (faulty h prompt owed) =
    absurd (fit_has_none request read left line ended (at (λ k. omega (arith, k))) fit h)
own_ends_with request read left text line ended status fit at (answered h) =
    let own = answer_own request read left text ended status at fit h in (own.0, complete_answer own.1)
own_ends_with request read left text line ended status fit at (wide n den h) =
    (wide_own request read text ended n den h, complete_wide read left ended n den refl (at (λ k. omega (arith, k))) h)
own_ends_with request read left text line ended status fit at (overfull count h) =
    (overfull_own request read ended count h, complete_overfull count (full_own request read left ended count (at (λ k. omega (arith, k))) h) refl)

own_end : {request : Request} {i : Drained} {o : Filled} {read text line : List ℕ} {status : ℕ} (left : List ℕ) → IsEnd request i o read text status line
    → AreFit request (read ++ left) → (¬ HasFailed i) → (¬ HasRefused o) → (status ≢ 7 → i.ended ≡ true → left ≡ []) → Own request (read ++ left) text status
own_end {request} {i} {read = read} {text = text} {line = line} {status = status} left (by_itself h) fit calm quiet at =
    own_ends_with request read left text line i.ended status fit at h
own_end left (unread has ended failed sound owed) fit calm quiet at = absurd (calm failed)
own_end left (unwritten rest some failed begun) fit calm quiet at = absurd (quiet failed)
own_end {request} {read = read} left (no_memory known begun) fit calm quiet at = (starved_own request (read ++ left) fit, complete_starved)

-- the end of a request that reads nothing
made_ends_with : (number rows : ℕ) (read text line : List ℕ) (ended : Bool) {status : ℕ} → EndsWith read ended (generated number rows) status line text
    → (status ≡ 0) × IsSummary number rows text
made_ends_with number rows read text line ended (faulty h prompt owed) = absurd h
made_ends_with number rows read text line ended (answered h) = h
made_ends_with number rows read text line ended (wide n den h) = absurd h
made_ends_with number rows read text line ended (overfull count h) = absurd h

made_end : (request : Request) (i : Drained) (o : Filled) (read bytes text line : List ℕ) {status : ℕ} → has_input request ≡ false → AreFit request bytes
    → (¬ HasRefused o) → IsEnd request i o read text status line → IsOwnStatus request status × IsComplete request bytes text status
made_end no_form i o read bytes text line none_read fit quiet end = absurd fit
made_end (refused l) i o read bytes text line none_read fit quiet end = absurd fit
made_end (whole c f) i o read bytes text line none_read fit quiet end = absurd (false≢true (sym none_read))
made_end (stream s f) i o read bytes text line none_read fit quiet end = absurd (false≢true (sym none_read))
made_end (sessions f) i o read bytes text line none_read fit quiet end = absurd (false≢true (sym none_read))
made_end (generated number rows) i o read bytes text line none_read fit quiet (by_itself h) =
    let is = made_ends_with number rows read text line i.ended h in
    (inl is.0, complete_answer is)
made_end (generated number rows) i o read bytes text line none_read fit quiet (unread has ended failed sound owed) = absurd (false≢true has)
made_end (generated number rows) i o read bytes text line none_read fit quiet (unwritten rest some failed begun) = absurd (quiet failed)
made_end (generated number rows) i o read bytes text line none_read fit quiet (no_memory known begun) = (inr refl, complete_starved)

module _ (words : List (List ℕ)) (request : Request) (i : Drained) (o : Filled) (ask : Asks words request) (bytes : List ℕ)
    (calm : IsUndisturbed request i o bytes) where
  of_request : {read text line : List ℕ} {status : ℕ} (other : Request) → Consumes i.before i.after read → Appends o.before o.after text → Asks words other
      → (status ≢ 7 → has_input other ≡ true → IsReadOut i) → IsEnd other i o read text status line → IsCompleteRun request o bytes status
  of_request {read} {text} {line} {status} other moved grew also at end = by_input (has_input request) refl
    where
      same : other ≡ request
      same = one_request words other request also ask

      ended : IsEnd request i o read text status line
      ended = subst (λ (q : Request). IsEnd q i o read text status line) same end

      by_input : (b : Bool) → has_input request ≡ b → IsCompleteRun request o bytes status
      by_input true has =
          let (left, after, parts) = rest_of i.before i.after bytes read (calm.held has) moved in
          let own = own_end left ended (subst (AreFit request) parts calm.fit) calm.source_works calm.sink_works
          (λ n said. subst IsAtEnd after ((at n (ap has_input same ∙ has)).none_left said)) in
          record { text = text; grew = grew; own = own.0; is = subst (λ b. IsComplete request b text status) (sym parts) own.1 }
      by_input false has =
          let own = made_end request i o read bytes text line has calm.fit calm.sink_works ended in
          record { text = text; grew = grew; own = own.0; is = own.1 }

  of_end : {read text line : List ℕ} {status : ℕ} → Consumes i.before i.after read → Appends o.before o.after text → HasEnded words i o read text status line
      → IsCompleteRun request o bytes status
  of_end moved grew (asked other also nothing at pace end) = of_request other moved grew also at end
  of_end moved grew (unknown some nothing) = record { text = []; grew = grew; own = starved_own request bytes calm.fit; is = complete_starved }

-- a run of words that ask for this, where nothing disturbs it
pub completed : (words : List (List ℕ)) (request : Request) (i : Drained) (o e : Filled) (bytes : List ℕ) (status : ℕ)
    → Asks words request → IsUndisturbed request i o bytes
    → IsRun words i o e status → IsCompleteRun request o bytes status
completed words request i o e bytes status ask calm r = of_end words request i o ask bytes calm r.moved r.grew r.ended
