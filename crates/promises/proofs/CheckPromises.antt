-- The promises of `check`, each from how a run ends whose words ask for it.
use Rattle.std.proofs.Common.{◌≡◌, ◌≢◌, ◌⊎◌, inl, inr, ℕ, ◌≤◌, Bool, true, false, List, [], ◌++◌}
use Rattle.std.proofs.Common.{refl, sym, ap, ◌∙◌, subst, arith, append-nil, Some, codes}
use Rattle.std.specs.Prelude.{Option}
use Rattle.std.proofs.lemmas.Bool.{false≢true}
use Rattle.std.proofs.lemmas.List.{append_cancel_left, append_cancel_right}
use Rattle.std.specs.Io.KnownBytes.{Appends, Consumes, IsAtEnd}
use Rattle.rational.proofs.Lists.{append_some}
use Rattle.io_edge.specs.Causes.{Rose}
use Rattle.io_edge.specs.Calls.{Drained, Filled, HasFailed, HasRefused}
use Rattle.stl_syntax.specs.Formula.{Formula}
use Rattle.stl_syntax.specs.Trace.{Trace}
use Rattle.stl_grammar.specs.Grammar.{FormulaText}
use Rattle.stl_grammar.specs.FormulaRefusals.{IsFormulaOf}
use Rattle.stl_grammar.proofs.LawProofs.{one_formula}
use Rattle.report.specs.Report.{Command, check, robust, explain, json, table, Out}
use Rattle.promises.specs.Words.{AskCheck}
use Rattle.command_line.specs.Commands.{Verb, on_formula, IsForm, of_formula}
use Rattle.command_line.specs.Commands as word
use Rattle.workbench.specs.Requests.{Request, no_form, refused, whole, stream, sessions, generated, verdicts, early, margins}
use Rattle.workbench.specs.Requests.{Asks, IsAsked, word_of, IsRefusal, AreHeld, is_held, has_input}
use Rattle.workbench.specs.Owed.{OwesAtEnd, not_yet, faulty as faulty_at_end, too_many, at_end}
use Rattle.workbench.specs.Ended.{TellsTruth, bad, faulty, answered, wide, overfull}
use Rattle.workbench.specs.Running.{IsBegun, IsEnd, by_itself, unread, unwritten, no_memory, HasEnded, IsReadOut, asked, unknown, IsRun}
use Rattle.command_line.specs.Saying.{IsSaid, whole as all_said, part as part_said}
use Rattle.workbench.specs.InputFaults.{Fault, fault_text, whole_limits, IsInputFault}
use Rattle.trace_stream.specs.CaseReader.{IsWhole, IsSound}
use Rattle.command_line.specs.ErrTexts.{out_of_memory, read_fault, write_fault}
use Rattle.promises.specs.Promises as old
use Rattle.promises.specs.Promises.{AskForBad, AskFor, Drew, Got, IsChecked, IsCutOff, IsErrLine, IsMessage}
use Rattle.command_line.proofs.NumberWords.{two_words}
use Rattle.trace_stream.proofs.FaultsStay.{unsound}
use Rattle.promises.proofs.NoForm.{two_is_none}
use Rattle.command_line.proofs.AskedWords.{word_form}
use Rattle.promises.proofs.OneRequest.{one_verb}
use Rattle.promises.proofs.CompleteRuns.{rest_of, truth_status}

-- words ask for one text
one_text : {words : List (List ℕ)} {text other : List ℕ} → AskCheck words text → AskCheck words other → text ≡ other
one_text {words} {text} {other} a b = let e = sym a ∙ b in cc

-- and for one formula
ask_once : {words : List (List ℕ)} {f g : Formula} → AskFor words f → AskFor words g → f ≡ g
ask_once {words} {f} {g} a b =
    let same = one_text a.form b.form in
    one_formula b.text f g (subst (λ t. FormulaText t f) same a.is.read) b.is.read

-- a text that is refused asks for no formula
not_both : {words : List (List ℕ)} {f : Formula} {line : List ℕ} → AskFor words f → ¬ AskForBad words line
not_both {words} {f} {line} a b = let (r, fault, e) = b.bad in (subst (λ t. IsFormulaOf t f) (one_text a.form b.form) a.is).sound r fault

-- told bytes that were taken are those that were consumed
took_is : {before after : Option (List ℕ)} {bytes read : List ℕ} → Drew before after bytes → Consumes before after read → read ≡ bytes
took_is {before} {after} {bytes} {read} t h =
    let whole : Consumes (Some (bytes ++ t.left)) (Some t.left) read =
    subst (λ a. Consumes (Some (bytes ++ t.left)) a read) t.now (subst (λ b. Consumes b after read) t.was h) in
    append_cancel_right read bytes t.left (sym whole)

-- told bytes that were got are those that were appended
got_is : {before after : Option (List ℕ)} {bytes text : List ℕ} → Got before after bytes → Appends before after text → text ≡ bytes
got_is {before} {after} {bytes} {text} g h =
    let whole : Appends (Some g.held) (Some (g.held ++ bytes)) text =
    subst (λ a. Appends (Some g.held) a text) g.now (subst (λ b. Appends b after text) g.was h) in
    append_cancel_left g.held text bytes (sym whole)

-- ---- words that ask for `check`: a text that is refused, or a formula

-- they ask for no other command
check_alone : {words : List (List ℕ)} {own : List ℕ} → AskCheck words own → (command : Verb) (text : List ℕ)
    → IsAsked words (on_formula command text) → command ≡ word.check
check_alone {words} {own} ask command text a =
    (one_verb command word.check text own a.is (subst (λ ws. IsForm ws (on_formula word.check own)) (sym ask) (of_formula word.check))).0

check_asked : {words : List (List ℕ)} {text : List ℕ} → IsAsked words (on_formula word.check text) → AskCheck words text
check_asked a = word_form a.is

asked_check : {words : List (List ℕ)} {text : List ℕ} → AskCheck words text → IsAsked words (on_formula word.check text)
asked_check {words} {text} e =
    record { built = inl refl; is = subst (λ ws. IsForm ws (on_formula word.check text)) (sym e) (of_formula word.check) }

module _ {words : List (List ℕ)} {own : List ℕ} (ask : AskCheck words own) where
  bad_of : (line : List ℕ) → Asks words (refused line) → AskForBad words line
  bad_of line a = by_refusal (subst (λ k. IsRefusal k a.text line) same a.is)
    where
      same : a.command ≡ word.check
      same = check_alone ask a.command a.text a.form

      by_refusal : IsRefusal word.check a.text line → AskForBad words line
      by_refusal (inl b) = record { text = a.text; form = check_asked (subst (λ k. IsAsked words (on_formula k a.text)) same a.form); bad = b }
      by_refusal (inr (f, i, is, unserved, e)) = absurd unserved

-- how a run of the words ends, in the words of `check`
data Seen (words : List (List ℕ)) (i : Drained) (o : Filled) (bytes text : List ℕ) : ℕ → List ℕ → Type 0 where
  s_bad : {line : List ℕ} → AskForBad words line → Seen words i o bytes text 3 line
  s_starved : Seen words i o bytes text 7 out_of_memory
  s_fault : (f : Formula) (x : Fault) → AskFor words f → IsInputFault whole_limits f bytes i.ended x → (i.ended ≡ true → IsAtEnd i.after)
      → Seen words i o bytes text 4 (fault_text x)
  s_answer : {status : ℕ} (f : Formula) (tr : Trace) → AskFor words f → IsWhole whole_limits f bytes tr → Out check f tr text → TellsTruth f tr status
      → i.ended ≡ true → IsAtEnd i.after → Seen words i o bytes text status []
  s_unread : (f : Formula) → AskFor words f → i.ended ≡ false → HasFailed i → IsSound whole_limits f bytes false → Seen words i o bytes text 5 read_fault
  s_unwritten : (f : Formula) (tr : Trace) (rest : List ℕ) → AskFor words f → IsWhole whole_limits f bytes tr
      → Out check f tr (text ++ rest) → rest ≢ [] → HasRefused o
      → i.ended ≡ true → IsAtEnd i.after → Seen words i o bytes text 6 write_fault

module _ {words : List (List ℕ)} {i : Drained} {o : Filled} {bytes : List ℕ} where
  seen_bad : {text : List ℕ} {status : ℕ} {line : List ℕ} (l : List ℕ) → AskForBad words l
      → IsEnd (refused l) i o bytes text status line → Seen words i o bytes text status line
  seen_bad l b (by_itself bad) = s_bad b
  seen_bad l b (by_itself (faulty fault prompt owed)) = absurd fault
  seen_bad l b (by_itself (answered is)) = absurd is
  seen_bad l b (by_itself (wide n den is)) = absurd is
  seen_bad l b (by_itself (overfull n is)) = absurd is
  seen_bad l b (unread has ended failed sound owed) = absurd (false≢true has)
  seen_bad {text = text} l b (unwritten rest some failed begun) = absurd (append_some text rest some begun.owed)
  seen_bad l b (no_memory known begun) = s_starved

  seen_cut : {text : List ℕ} (f : Formula) (rest : List ℕ) (ask : AskFor words f) → rest ≢ [] → HasRefused o
      → (i.ended ≡ true → IsAtEnd i.after) → (b : IsBegun (whole check f) bytes i.ended text rest)
      → Seen words i o bytes text 6 write_fault
  seen_cut {text} f rest ask some failed at b = by_owed b.seen b.seen_end (text ++ rest) refl refl refl b.owed
    where
      by_owed : (seen : List ℕ) (e : Bool) (all : List ℕ) → b.seen ≡ seen → b.seen_end ≡ e → text ++ rest ≡ all
          → OwesAtEnd check f seen e all → Seen words i o bytes text 6 write_fault
      by_owed seen false all p q s not_yet = absurd (append_some text rest some s)
      by_owed seen true all p q s (faulty_at_end x fault) = absurd (append_some text rest some s)
      by_owed seen true all p q s (too_many tr n trace many) = absurd (append_some text rest some s)
      by_owed seen true all p q s (at_end tr trace few written) =
          let all_read = b.at_end q in
          let same : bytes ≡ seen = b.parts ∙ ap (λ l. b.seen ++ l) all_read.1 ∙ append-nil b.seen ∙ p in
          s_unwritten f tr rest ask (subst (λ bs. IsWhole whole_limits f bs tr) (sym same) trace)
          (subst (λ t. Out check f tr t) (sym s) written) some failed all_read.0 (at all_read.0)

  seen_check : {text : List ℕ} {status : ℕ} {line : List ℕ} (f : Formula) → AskFor words f → (status ≢ 7 → IsReadOut i)
      → IsEnd (whole check f) i o bytes text status line
      → Seen words i o bytes text status line
  seen_check {text = text} f ask at (by_itself (faulty {line = line} (x, fault, e) prompt owed)) =
      subst (λ l. Seen words i o bytes text 4 l) (sym e) (s_fault f x ask fault (at (λ k. omega (arith, k))).none_left)
  seen_check f ask at (by_itself {status = status} (answered (ended, is))) =
      s_answer f is.tr ask is.trace is.written is.verdict ended ((at (not_seven status is.verdict)).none_left ended)
    where
      not_seven : (s : ℕ) → TellsTruth f is.tr s → s ≢ 7
      not_seven s (inl h) k = let a = h.0 in omega (arith, a, k)
      not_seven s (inr h) k = let a = h.0 in omega (arith, a, k)
  seen_check f ask at (by_itself (wide n den (ended, e, is))) = absurd is.cause
  seen_check f ask at (by_itself (overfull n (ended, (t, trace, many)))) = absurd many
  seen_check f ask at (unread has ended failed sound owed) = s_unread f ask ended failed (λ x fault. sound (fault_text x) (x, fault, refl))
  seen_check f ask at (unwritten rest some failed begun) = seen_cut f rest ask some failed (at (λ k. omega (arith, k))).none_left begun
  seen_check f ask at (no_memory known begun) = s_starved

  module _ {own : List ℕ} (ask : AskCheck words own) where
    seen_request : {text : List ℕ} {status : ℕ} {line : List ℕ} (request : Request) → Asks words request → (status ≢ 7 → has_input request ≡ true → IsReadOut i)
        → IsEnd request i o bytes text status line → Seen words i o bytes text status line
    seen_request no_form a at end = absurd (a (on_formula word.check own) (asked_check ask))
    seen_request (refused l) a at end = seen_bad l (bad_of ask l a) end
    seen_request (whole check f) a at end = seen_check f (record { text = a.text; form = check_asked a.form; is = a.is }) (λ n. at n refl) end
    seen_request (whole robust f) a at end = absurd (let e = check_alone ask word.robust a.text a.form in cc)
    seen_request (whole explain f) a at end = absurd (let e = check_alone ask word.explain a.text a.form in cc)
    seen_request (whole json f) a at end = absurd (let e = check_alone ask word.json a.text a.form in cc)
    seen_request (whole table f) a at end = absurd (let e = check_alone ask word.table a.text a.form in cc)
    seen_request (stream verdicts f) a at end = absurd (let e = check_alone ask word.watch a.text a.form in cc)
    seen_request (stream early f) a at end = absurd (let e = check_alone ask word.early a.text a.form in cc)
    seen_request (stream margins f) a at end = absurd (let e = check_alone ask word.rwatch a.text a.form in cc)
    seen_request (sessions f) a at end = absurd (let e = check_alone ask word.mux a.text a.form in cc)
    seen_request (generated n rows) a at end = absurd (two_words (codes "check") own ask a.is)

    -- a run of a check that ended is seen as one of its endings
    seen_ended : {text : List ℕ} {status : ℕ} {line : List ℕ} → HasEnded words i o bytes text status line → Seen words i o bytes text status line
    seen_ended (asked request a nothing at pace end) = seen_request request a at end
    seen_ended (unknown some nothing) = s_starved

-- ---- the promises

not_answer : (status : ℕ) → 2 ≤ status → status ≢ 6 → (status ≤ 1) ⊎ (status ≡ 6) → ⊥
not_answer status a b (inl s) = omega (arith, a, s)
not_answer status a b (inr s) = b s

fault_for : {words : List (List ℕ)} {f g : Formula} {bytes other : List ℕ} (ended : Bool) (x : Fault) → AskFor words f
    → AskFor words g → bytes ≡ other → IsInputFault whole_limits f bytes ended x → IsInputFault whole_limits g other ended x
fault_for {words} {f} {g} {bytes} {other} ended x a b same h =
    subst (λ (k : Formula). IsInputFault whole_limits k other ended x) (ask_once a b) (subst (λ bs. IsInputFault whole_limits f bs ended x) same h)

whole_for : {words : List (List ℕ)} {f g : Formula} {bytes other : List ℕ} {tr : Trace} → AskFor words f → AskFor words g
    → bytes ≡ other → IsWhole whole_limits f bytes tr → IsWhole whole_limits g other tr
whole_for {words} {f} {g} {bytes} {other} {tr} a b same h =
    subst (λ (k : Formula). IsWhole whole_limits k other tr) (ask_once a b) (subst (λ bs. IsWhole whole_limits f bs tr) same h)

-- a whole trace has no fault
sound_end : {words : List (List ℕ)} {f g : Formula} {bytes other : List ℕ} {tr : Trace} {ended : Bool} (x : Fault)
    → AskFor words f → AskFor words g → bytes ≡ other → IsWhole whole_limits f bytes tr → ended ≡ true
    → IsInputFault whole_limits g other ended x → ⊥
sound_end {words} {f} {g} {bytes} {other} {tr} {ended} x a b same trace e fault =
    (whole_for a b same trace).sound x (subst (λ (k : Bool). IsInputFault whole_limits g other k x) e fault)

module _ (words : List (List ℕ)) {own : List ℕ} (ask : AskCheck words own) (i : Drained) (o e : Filled) where
  abbrev See : List ℕ → List ℕ → ℕ → List ℕ → Type 0
  See bytes text status line = Seen words i o bytes text status line

  seen : {status : ℕ} (r : IsRun words i o e status) → See r.bytes r.text status r.line
  seen r = seen_ended ask r.ended

  module _ {bytes text : List ℕ} where
    bound : {status : ℕ} {line : List ℕ} → See bytes text status line → status ≤ 7
    bound (s_bad b) = omega arith
    bound s_starved = omega arith
    bound (s_fault f x a fault at) = omega arith
    bound (s_answer f tr a trace written truth ended at) = omega (arith, truth_status f tr _ truth)
    bound (s_unread f a ended failed sound) = omega arith
    bound (s_unwritten f tr rest a trace written some failed ended at) = omega arith

    bad_rightly : {status : ℕ} {line : List ℕ} → See bytes text status line → old.IsBadRightly words status
    bad_rightly (s_bad {line = line} b) s = (line, b)
    bad_rightly s_starved s = absurd (omega (arith, s))
    bad_rightly (s_fault f x a fault at) s = absurd (omega (arith, s))
    bad_rightly (s_answer f tr a trace written truth ended at) s = absurd (omega (arith, s, truth_status f tr _ truth))
    bad_rightly (s_unread f a ended failed sound) s = absurd (omega (arith, s))
    bad_rightly (s_unwritten f tr rest a trace written some failed ended at) s = absurd (omega (arith, s))

    bad_due : {status : ℕ} {line : List ℕ} → See bytes text status line → old.IsBadWhereDue words status
    bad_due (s_bad b') l b = inl refl
    bad_due s_starved l b = inr refl
    bad_due (s_fault f x a fault at) l b = absurd (not_both a b)
    bad_due (s_answer f tr a trace written truth ended at) l b = absurd (not_both a b)
    bad_due (s_unread f a ended failed sound) l b = absurd (not_both a b)
    bad_due (s_unwritten f tr rest a trace written some failed ended at) l b = absurd (not_both a b)

    refused_rightly : {status : ℕ} {line : List ℕ} → Consumes i.before i.after bytes → See bytes text status line
        → old.IsRefusedRightly words i.before i.after i.ended status
    refused_rightly moved (s_bad b) s g bs ask took = absurd (omega (arith, s))
    refused_rightly moved s_starved s g bs ask took = absurd (omega (arith, s))
    refused_rightly moved (s_fault f x a fault at) s g bs ask took = (x, fault_for i.ended x a ask (took_is took moved) fault)
    refused_rightly moved (s_answer f tr a trace written truth ended at) s g bs ask took = absurd (omega (arith, s, truth_status f tr _ truth))
    refused_rightly moved (s_unread f a ended failed sound) s g bs ask took = absurd (omega (arith, s))
    refused_rightly moved (s_unwritten f tr rest a trace written some failed ended at) s g bs ask took = absurd (omega (arith, s))

    refused_due : {status : ℕ} {line : List ℕ} → Consumes i.before i.after bytes → See bytes text status line
        → old.IsRefusedWhereDue words i.before i.after i.ended status
    refused_due moved (s_bad b) g bs x ask took fault = absurd (not_both ask b)
    refused_due moved s_starved g bs x ask took fault = inr refl
    refused_due moved (s_fault f y a known at) g bs x ask took fault = inl refl
    refused_due moved (s_answer f tr a trace written truth ended at) g bs x ask took fault = absurd (sound_end x a ask (took_is took moved) trace ended fault)
    refused_due moved (s_unread f a ended failed sound) g bs x ask took fault =
        absurd (sound x (subst (λ (k : Bool). IsInputFault whole_limits f bytes k x) ended
        (subst (λ (k : Formula). IsInputFault whole_limits k bytes i.ended x) (ask_once ask a)
        (subst (λ b. IsInputFault whole_limits g b i.ended x) (sym (took_is took moved)) fault))))
    refused_due moved (s_unwritten f tr rest a trace written some failed ended at) g bs x ask took fault =
        absurd (sound_end x a ask (took_is took moved) trace ended fault)

    answered_due : {status : ℕ} {line : List ℕ} → Consumes i.before i.after bytes → See bytes text status line
        → old.IsAnsweredWhereDue words i.before i.faults i.faults_after o.faults o.faults_after status
    answered_due moved (s_bad b) g bs ask here sound calm quiet = absurd (not_both ask b)
    answered_due moved s_starved g bs ask here sound calm quiet = inr refl
    answered_due moved (s_fault f x a fault at) g bs ask here sound calm quiet =
        let (rest, after, e) = rest_of i.before i.after bs bytes here moved in
        absurd (by_end i.ended refl (fault_for i.ended x a ask refl fault) rest after e)
      where
        by_end : (b : Bool) → i.ended ≡ b → IsInputFault whole_limits g bytes b x → (rest : List ℕ) → i.after ≡ Some rest → bs ≡ bytes ++ rest → ⊥
        by_end false s fault rest after e = unsound whole_limits g bytes rest x fault (subst (λ k. IsSound whole_limits g k true) e sound)
        by_end true s fault rest after e =
            let nothing_left : rest ≡ [] = subst IsAtEnd after (at s) in
            sound x (subst (λ k. IsInputFault whole_limits g k true x) (sym (e ∙ ap (λ r. bytes ++ r) nothing_left ∙ append-nil bytes)) fault)
    answered_due moved (s_answer f tr a trace written truth ended at) g bs ask here sound calm quiet = inl (truth_status f tr _ truth)
    answered_due moved (s_unread f a ended failed sound') g bs ask here sound calm quiet = absurd (calm failed)
    answered_due moved (s_unwritten f tr rest a trace written some failed ended at) g bs ask here sound calm quiet = absurd (quiet failed)

    five : {status : ℕ} {line : List ℕ} → See bytes text status line → status ≡ 5 → HasFailed i
    five (s_bad b) s = absurd (omega (arith, s))
    five s_starved s = absurd (omega (arith, s))
    five (s_fault f x a fault at) s = absurd (omega (arith, s))
    five (s_answer f tr a trace written truth ended at) s = absurd (omega (arith, s, truth_status f tr _ truth))
    five (s_unread f a ended failed sound) s = failed
    five (s_unwritten f tr rest a trace written some failed ended at) s = absurd (omega (arith, s))

    six : {status : ℕ} {line : List ℕ} → See bytes text status line → status ≡ 6 → HasRefused o
    six (s_bad b) s = absurd (omega (arith, s))
    six s_starved s = absurd (omega (arith, s))
    six (s_fault f x a fault at) s = absurd (omega (arith, s))
    six (s_answer f tr a trace written truth ended at) s = absurd (omega (arith, s, truth_status f tr _ truth))
    six (s_unread f a ended failed sound) s = absurd (omega (arith, s))
    six (s_unwritten f tr rest a trace written some failed ended at) s = failed

    all_read : {status : ℕ} {line : List ℕ} → See bytes text status line → (status ≤ 1) ⊎ (status ≡ 6) → (i.ended ≡ true) × IsAtEnd i.after
    all_read (s_bad b) s = absurd (not_answer 3 (omega arith) (λ k. omega (arith, k)) s)
    all_read s_starved s = absurd (not_answer 7 (omega arith) (λ k. omega (arith, k)) s)
    all_read (s_fault f x a fault at) s = absurd (not_answer 4 (omega arith) (λ k. omega (arith, k)) s)
    all_read (s_answer f tr a trace written truth ended at) s = (ended, at)
    all_read (s_unread f a ended failed sound) s = absurd (not_answer 5 (omega arith) (λ k. omega (arith, k)) s)
    all_read (s_unwritten f tr rest a trace written some failed ended at) s = (ended, at)

    answered_rightly : {status : ℕ} {line : List ℕ} → Consumes i.before i.after bytes → Appends o.before o.after text → See bytes text status line
        → old.IsAnsweredRightly words i.before i.after o.before o.after status
    answered_rightly moved grew (s_bad b) s g bs t ask took got = absurd (omega (arith, s))
    answered_rightly moved grew s_starved s g bs t ask took got = absurd (omega (arith, s))
    answered_rightly moved grew (s_fault f x a fault at) s g bs t ask took got = absurd (omega (arith, s))
    answered_rightly moved grew (s_answer {status = status} f tr a trace written truth ended at) s g bs t ask took got =
        subst (λ (k : Formula). IsChecked k bs t status) (ask_once a ask) (record {
          tr = tr;
          trace = subst (λ b. IsWhole whole_limits f b tr) (took_is took moved) trace;
          written = subst (λ x. Out check f tr x) (got_is got grew) written;
          truth = truth;
        })
    answered_rightly moved grew (s_unread f a ended failed sound) s g bs t ask took got = absurd (omega (arith, s))
    answered_rightly moved grew (s_unwritten f tr rest a trace written some failed ended at) s g bs t ask took got = absurd (omega (arith, s))

    cut_off_rightly : {status : ℕ} {line : List ℕ} → Consumes i.before i.after bytes → Appends o.before o.after text → See bytes text status line
        → old.IsCutOffRightly words i.before i.after o.before o.after status
    cut_off_rightly moved grew (s_bad b) s g bs t ask took got = absurd (omega (arith, s))
    cut_off_rightly moved grew s_starved s g bs t ask took got = absurd (omega (arith, s))
    cut_off_rightly moved grew (s_fault f x a fault at) s g bs t ask took got = absurd (omega (arith, s))
    cut_off_rightly moved grew (s_answer f tr a trace written truth ended at) s g bs t ask took got = absurd (omega (arith, s, truth_status f tr _ truth))
    cut_off_rightly moved grew (s_unread f a ended failed sound) s g bs t ask took got = absurd (omega (arith, s))
    cut_off_rightly moved grew (s_unwritten f tr rest a trace written some failed ended at) s g bs t ask took got =
        subst (λ (k : Formula). IsCutOff k bs t) (ask_once a ask) (record {
          tr = tr;
          trace = subst (λ b. IsWhole whole_limits f b tr) (took_is took moved) trace;
          rest = rest;
          missing = some;
          written = subst (λ x. Out check f tr (x ++ rest)) (got_is got grew) written;
        })

    line_of : {status : ℕ} {line : List ℕ} → Consumes i.before i.after bytes → See bytes text status line → IsErrLine words i.before i.after i.ended status line
    line_of moved (s_bad b) = old.bad_text b
    line_of moved s_starved = old.no_memory
    line_of moved (s_fault f x a fault at) = old.first_fault (λ g bs ask took. (x, fault_for i.ended x a ask (took_is took moved) fault, refl))
    line_of moved (s_answer f tr a trace written truth ended at) = old.nothing (truth_status f tr _ truth)
    line_of moved (s_unread f a ended failed sound) = old.unread
    line_of moved (s_unwritten f tr rest a trace written some failed ended at) = old.unwritten

  message_of : {held held_after : Option (List ℕ)} {faults faults_after : ℕ} {line : List ℕ}
      → IsSaid held held_after faults faults_after line → (message : List ℕ) → Got held held_after message
      → IsMessage line message faults faults_after
  message_of (all_said {line = line} w) message got = record { rest = []; parts = got_is got w ∙ sym (append-nil message); complete = λ rose. refl }
  message_of (part_said p rose) message got =
      record { rest = p.back; parts = p.parts ∙ ap (λ t. t ++ p.back) (got_is got p.wrote); complete = λ calm. absurd (calm rose) }

  module _ {status : ℕ} (r : IsRun words i o e status) where
    -- the status of such a run is at most 7
    pub run_bound : status ≤ 7
    run_bound = bound (seen r)

    -- such a run is not refused for its usage
    pub run_form : status ≢ 2
    run_form two = two_is_none i o r.ended two (on_formula word.check own) (asked_check ask)

    -- such a run ends with 4 only where the bytes have a fault
    pub run_bad : old.IsBadRightly words status
    run_bad = bad_rightly (seen r)

    -- such a run ends with 4 where the bytes have a fault and nothing else comes before it
    pub run_bad_due : old.IsBadWhereDue words status
    run_bad_due = bad_due (seen r)

    -- such a run ends with 3 only where the formula is refused, with nothing read
    pub run_refused : old.IsRefusedRightly words i.before i.after i.ended status
    run_refused = refused_rightly r.moved (seen r)

    -- such a run ends with 3 where the formula is refused
    pub run_due : old.IsRefusedWhereDue words i.before i.after i.ended status
    run_due = refused_due r.moved (seen r)

    -- such a run is answered where nothing is wrong, no device fails and memory suffices
    pub run_answer_due : old.IsAnsweredWhereDue words i.before i.faults i.faults_after o.faults o.faults_after status
    run_answer_due = answered_due r.moved (seen r)

    -- where such a run ends with 5 the source failed
    pub run_read : status ≡ 5 → Rose i.faults i.faults_after
    run_read = five (seen r)

    -- where such a run ends with 6 the sink failed
    pub run_write : status ≡ 6 → Rose o.faults o.faults_after
    run_write = six (seen r)

    -- such a run is answered, or fails at its output, only after the whole input was read
    pub run_all_read : (status ≤ 1) ⊎ (status ≡ 6) → (i.ended ≡ true) × IsAtEnd i.after
    run_all_read = all_read (seen r)

    -- an answer of such a run is the right one, written whole
    pub run_answered : old.IsAnsweredRightly words i.before i.after o.before o.after status
    run_answered = answered_rightly r.moved r.grew (seen r)

    -- what was written where the output failed is a front of the answer
    pub run_cut_off : old.IsCutOffRightly words i.before i.after o.before o.after status
    run_cut_off = cut_off_rightly r.moved r.grew (seen r)

    -- the error stream has the line of the status
    pub run_said : old.IsSaidRightly words i.before i.after i.ended e.before e.after e.faults e.faults_after status
    run_said message got = (r.line, line_of r.moved (seen r), message_of r.said message got)

-- words of a command that holds the whole trace ask for no stream
held_word : (c : Command) (text : List ℕ) → is_held (on_formula (word_of c) text) ≡ true
held_word check text = refl
held_word robust text = refl
held_word explain text = refl
held_word json text = refl
held_word table text = refl

-- the words of a command are few and short enough to be held
pub all_held : (words : List (List ℕ)) (c : Command) (f : Formula) → Asks words (whole c f) → AreHeld words
all_held words c f ask (on_formula command text) a =
    subst (λ (j : Verb). is_held (on_formula j text) ≡ true) (one_verb (word_of c) command ask.text text ask.form.is a.is).0 (held_word c text)
all_held words c f ask (word.generate n rows) a = refl
