-- How a run ends, from how its parts do.
use Rattle.std.proofs.Common.{◌≡◌, ◌≢◌, ◌⊎◌, inl, inr, ℕ, ◌≤◌, Bool, true, false, List, [], refl, sym, ap, ◌∙◌, subst, arith, append-nil, Result, Ok, Err}
use Rattle.std.specs.Prelude.{Option, IsErr}
use Rattle.std.specs.Io.KnownBytes.{Appends, Consumes, IsAtEnd}
use Rattle.std.proofs.KnownBytes.{Appends-nil, Consumes-nil}
use Rattle.std.proofs.lemmas.Bool.{false≢true}
use Rattle.io_edge.specs.Calls.{Drained, Filled, HasFailed, HasRefused, IsAskedOnce}
use Rattle.stl_syntax.specs.Formula.{Formula}
use Rattle.stl_syntax.specs.Trace.{Trace}
use Rattle.report.specs.Report.{Command, check, robust, explain, json, table, Out}
use Rattle.verdict_sets.specs.Telling.{IsCheckAnswer}
use Rattle.command_line.specs.Commands.{Verb, on_formula, generate}
use Rattle.command_line.specs.Words.{IsBadEnd, refused, no_room}
use Rattle.workbench.specs.Requests.{no_form, refused as bad_request, whole as of_whole, IsAsked}
use Rattle.workbench.specs.Requests.{AreNone, AreOfNoFormula, generated, AreFor, word_of, usage_line, IsUnserved}
use Rattle.workbench.specs.Owed.{OwesAtEnd, not_yet, faulty as faulty_at_end, at_end as owed_at_end}
use Rattle.workbench.specs.Ended.{IsPrompt, none, bad, faulty, answered as as_answered, wide as as_wide, overfull as as_overfull}
use Rattle.workbench.specs.Running.{IsEnd, by_itself, unread, unwritten, no_memory, HasEnded, asked, unknown, IsRun}
use Rattle.command_line.specs.Saying.{IsSaid}
use Rattle.workbench.specs.InputFaults.{Fault, whole_limits, IsInputFault}
use Rattle.whole_answers.specs.FromSource.{IsReadWhole, IsReadPromptly, IsStop}
use Rattle.command_line.specs.Writing.{IsPartWritten}
use Rattle.whole_answers.specs.Judging.{IsAnswerOf, IsUnanswered}
use Rattle.whole_answers.specs.declared.no_answer.NoAnswer.{NoAnswer}
use Rattle.whole_answers.specs.declared.no_answer.NoAnswer.TheVariants as reason
use Rattle.workbench.specs.Stopping.{stop_for}
use Rattle.workbench.specs.Wholes.{status_of_truth, IsWrittenWith, all_of_it}
use Rattle.workbench.specs.Wholes.{a_part, IsWholeEnd, answered, unanswered, stopped, status_of, status_of_stop}
use Rattle.workbench.specs.Wholes.{IsEndLine, IsStopLine, EndsSoundly}
use Rattle.trace_stream.specs.declared.case.Case.{Case}
use Rattle.workbench.specs.declared.fault.Stop.{Stop}
use Rattle.workbench.specs.declared.fault.Stop.TheVariants.{Fault as Faulty, Input as FaultyLine, Unread, Unwritten, NoMemory, Wide, TooMany}
use Rattle.command_line.specs.ErrTexts.{write_fault, out_of_memory}
use Rattle.workload_summary.specs.Generator.{IsSummary}
use Rattle.workload_summary.specs.Made.{IsMade, written, cut_off, no_room as no_room_for_it}

-- ---- words

-- words that are of neither form are of none
pub none_of_both : {words : List (List ℕ)} → AreOfNoFormula words → ((number rows : ℕ) → ¬ IsAsked words (generate number rows)) → AreNone words
none_of_both h k (on_formula j text) a = h j text a
none_of_both h k (generate number rows) a = k number rows a

-- a command that holds the whole trace serves each formula
pub serves : (c : Command) (f : Formula) (i : ℕ) → ¬ IsUnserved (word_of c) f i
serves check f i h = h
serves robust f i h = h
serves explain f i h = h
serves json f i h = h
serves table f i h = h

-- ---- parts

-- writing does not end as a failed read
pub not_unread : {holds : Bool} {text : List ℕ} {held held_after : Option (List ℕ)} {e : Result Bool Stop}
    → IsWrittenWith holds text held held_after e → e ≢ Err Unread
not_unread (all_of_it w) same = let k = same in cc
not_unread (a_part w) same = let k = same in cc

-- writing ends in no failure but that of the output
pub only_unwritten : {holds : Bool} {text : List ℕ} {held held_after : Option (List ℕ)} {e : Result Bool Stop}
    → IsWrittenWith holds text held held_after e → IsErr e → e ≢ Err Unwritten → ⊥
only_unwritten (all_of_it w) err other = let k = err in cc
only_unwritten (a_part w) err other = other refl

kept_all : (before after : Option (List ℕ)) → after ≡ before → Appends before after []
kept_all before after e = subst (λ a. Appends before a []) (sym e) (Appends-nil before)

kept_left : (before after : Option (List ℕ)) → after ≡ before → Consumes before after []
kept_left before after e = subst (λ a. Consumes before a []) (sym e) (Consumes-nil before)

-- a reason for no answer is no failed device
pub not_stopped : (c : Command) (f : Formula) (tr : Trace) (n : NoAnswer) → IsUnanswered c f tr n → (stop_for n ≢ Unread) × (stop_for n ≢ Unwritten)
not_stopped c f tr (reason.Fault fault) is = absurd is
not_stopped c f tr reason.Unread is = absurd is
not_stopped c f tr reason.NoMemory is = (λ e. let k = e in cc, λ e. let k = e in cc)
not_stopped c f tr (reason.Wide i den) is = (λ e. let k = e in cc, λ e. let k = e in cc)
not_stopped c f tr (reason.TooMany count) is = (λ e. let k = e in cc, λ e. let k = e in cc)

-- the reading stopped for a failed source exactly where the command does
pub unread_as : (n : NoAnswer) (s : Stop) → s ≡ stop_for n → (s ≡ Unread → n ≡ reason.Unread) × (n ≡ reason.Unread → s ≡ Unread)
unread_as (reason.Fault fault) s e =
    (λ k. absurd (let h : Faulty fault ≡ Unread = sym e ∙ k in cc), λ k. absurd (let h : reason.Fault fault ≡ reason.Unread = k in cc))
unread_as reason.Unread s e = (λ k. refl, λ k. e)
unread_as reason.NoMemory s e =
    (λ k. absurd (let h : NoMemory ≡ Unread = sym e ∙ k in cc), λ k. absurd (let h : reason.NoMemory ≡ reason.Unread = k in cc))
unread_as (reason.Wide i den) s e =
    (λ k. absurd (let h : Wide i den ≡ Unread = sym e ∙ k in cc), λ k. absurd (let h : reason.Wide i den ≡ reason.Unread = k in cc))
unread_as (reason.TooMany count) s e =
    (λ k. absurd (let h : TooMany count ≡ Unread = sym e ∙ k in cc), λ k. absurd (let h : reason.TooMany count ≡ reason.Unread = k in cc))

-- and for want of memory where the command does
pub starved_as : (n : NoAnswer) (s : Stop) → s ≡ stop_for n → n ≡ reason.NoMemory → s ≡ NoMemory
starved_as n s e k = e ∙ ap stop_for k

-- the reading of a source never stops as a failed output
pub never_unwritten : (n : NoAnswer) → stop_for n ≢ Unwritten
never_unwritten (reason.Fault fault) e = let k = e in cc
never_unwritten reason.Unread e = let k = e in cc
never_unwritten reason.NoMemory e = let k = e in cc
never_unwritten (reason.Wide i den) e = let k = e in cc
never_unwritten (reason.TooMany count) e = let k = e in cc

-- the answer of `check`
pub check_answer : (f : Formula) (tr : Trace) (holds : Bool) (text : List ℕ) → IsCheckAnswer f tr holds text → IsAnswerOf check f tr holds text
check_answer f tr true text j = record { verdict = inl (refl, j.truth); written = j.written; few = λ n h. h; sure = tt }
check_answer f tr false text j = record { verdict = inr (refl, j.truth); written = j.written; few = λ n h. h; sure = tt }

-- an ending that stopped at a fault has one
pub ends_soundly : {c : Command} {f : Formula} {i : Drained} {o : Filled} {e : Result Bool Stop} → IsWholeEnd c f i o e → EndsSoundly f e
ends_soundly (answered k holds text read a (all_of_it w)) = tt
ends_soundly (answered k holds text read a (a_part w)) = tt
ends_soundly (unanswered k (reason.Fault fault) read is same) = absurd is
ends_soundly (unanswered k reason.Unread read is same) = tt
ends_soundly (unanswered k reason.NoMemory read is same) = tt
ends_soundly (unanswered k (reason.Wide i den) read is same) = tt
ends_soundly (unanswered k (reason.TooMany count) read is same) = tt
ends_soundly (stopped (reason.Fault fault) is same) = (is.0, is.1)
ends_soundly (stopped reason.Unread is same) = tt
ends_soundly (stopped reason.NoMemory is same) = tt
ends_soundly (stopped (reason.Wide i den) is same) = tt
ends_soundly (stopped (reason.TooMany count) is same) = tt

-- ---- runs

-- words of no form
pub none_run : {words : List (List ℕ)} (i : Drained) (o e : Filled) (line : List ℕ) → line ≡ usage_line → AreNone words
    → i.after ≡ i.before → o.after ≡ o.before
    → IsSaid e.before e.after e.faults e.faults_after line → IsRun words i o e 2
none_run i o e line is h same_in same_out said = record {
  bytes = [];
  text = [];
  line = usage_line;
  moved = kept_left i.before i.after same_in;
  grew = kept_all o.before o.after same_out;
  said = subst (λ l. IsSaid e.before e.after e.faults e.faults_after l) is said;
  ended = asked no_form h (λ _. refl) (λ _ b. absurd (false≢true b)) (λ b. absurd (false≢true b)) (by_itself none);
}

-- a generated trace
pub made_run : {words : List (List ℕ)} (number rows : ℕ) (i : Drained) (o e : Filled) (status : ℕ) (line : List ℕ) → IsAsked words (generate number rows)
    → IsMade number rows o status line → i.after ≡ i.before → IsSaid e.before e.after e.faults e.faults_after line → IsRun words i o e status
made_run {words} number rows i o e _ _ form (written {text = text} is w) same said = record {
  bytes = [];
  text = text;
  line = [];
  moved = kept_left i.before i.after same;
  grew = w;
  said = said;
  ended = asked (generated number rows) form (λ _. refl) (λ _ x. absurd (false≢true x)) (λ x. absurd (false≢true x)) (by_itself (as_answered (refl, is)));
}
made_run {words} number rows i o e _ _ form (cut_off is p failed) same said = record {
  bytes = [];
  text = p.front;
  line = write_fault;
  moved = kept_left i.before i.after same;
  grew = p.wrote;
  said = said;
  ended = asked (generated number rows) form (λ _. refl) (λ _ x. absurd (false≢true x)) (λ x. absurd (false≢true x))
      (unwritten p.back p.missing failed (record {
        seen = [];
        later = [];
        parts = refl;
        seen_end = false;
        at_end = λ h. absurd (false≢true h);
        owed = subst (IsSummary number rows) p.parts is;
      }));
}
made_run {words} number rows i o e _ _ form (no_room_for_it same_out) same said = record {
  bytes = [];
  text = [];
  line = out_of_memory;
  moved = kept_left i.before i.after same;
  grew = kept_all o.before o.after same_out;
  said = said;
  ended = asked (generated number rows) form (λ _. refl) (λ _ x. absurd (false≢true x)) (λ x. absurd (false≢true x))
      (no_memory (λ k. let h = k in cc) (inl refl));
}

-- a text that gives no formula
pub refused_run : {words : List (List ℕ)} {text : List ℕ} (j : Verb) (i : Drained) (o e : Filled) (status : ℕ) (line : List ℕ)
    → IsAsked words (on_formula j text) → IsBadEnd text status line
    → i.after ≡ i.before → o.after ≡ o.before → IsSaid e.before e.after e.faults e.faults_after line → IsRun words i o e status
refused_run {words} {text} j i o e status line form end same_in same_out said = record {
  bytes = [];
  text = [];
  line = line;
  moved = kept_left i.before i.after same_in;
  grew = kept_all o.before o.after same_out;
  said = said;
  ended = by_end end;
}
  where
    by_end : {status : ℕ} {line : List ℕ} → IsBadEnd text status line → HasEnded words i o [] [] status line
    by_end (refused {line = line} b) =
        asked (bad_request line) (record { command = j; text = text; form = form; is = inl b }) (λ _. refl)
        (λ _ x. absurd (false≢true x)) (λ x. absurd (false≢true x)) (by_itself bad)
    by_end no_room = unknown (λ h. h (on_formula j text) form) refl

prompt_of : (c : Command) (f : Formula) (bytes : List ℕ) (ended : Bool) → IsReadPromptly whole_limits f bytes ended → IsPrompt (of_whole c f) bytes ended
prompt_of c f bytes ended p = record {
  before = p.before;
  piece = p.piece;
  parts = p.parts;
  short = p.short;
  at_end = p.at_end;
  sound = λ line h. p.sound h.0 h.1;
}

owes_fault : (c : Command) (f : Formula) (bytes : List ℕ) (ended : Bool) (x : Fault) → IsInputFault whole_limits f bytes ended x → OwesAtEnd c f bytes ended []
owes_fault c f bytes false x h = not_yet
owes_fault c f bytes true x h = faulty_at_end x h

module _ (words : List (List ℕ)) (c : Command) (f : Formula) (i : Drained) (o e : Filled) (ask : AreFor words (word_of c) f) where
  -- the end of a request that is known, with what it read and wrote
  record Ending (status : ℕ) (line : List ℕ) : Type 0 where
    bytes : List ℕ
    text : List ℕ
    moved : Consumes i.before i.after bytes
    grew : Appends o.before o.after text
    at_end : status ≢ 7 → i.ended ≡ true → IsAtEnd i.after
    is : IsEnd (of_whole c f) i o bytes text status line

  with_line : {status : ℕ} {line other : List ℕ} → other ≡ line → Ending status line → Ending status other
  with_line {status} same x = subst (λ l. Ending status l) (sym same) x

  of_answer : (case : Case) (holds : Bool) (text : List ℕ) → IsReadWhole whole_limits f i.before i.after i.ended case → IsAnswerOf c f case.trace holds text
      → Appends o.before o.after text → Ending (status_of_truth holds) []
  of_answer case holds text read a w = record {
    bytes = read.bytes;
    text = text;
    moved = read.read.moved;
    grew = w;
    at_end = λ _. read.read.all;
    is = by_itself (as_answered (
      read.came_to_end,
      record { tr = case.trace; trace = read.whole; written = a.written; verdict = a.verdict; few = a.few; sure = a.sure },
    ));
  }

  of_part : (case : Case) (holds : Bool) (text : List ℕ) → IsReadWhole whole_limits f i.before i.after i.ended case → IsAnswerOf c f case.trace holds text
      → IsPartWritten o.before o.after text → HasRefused o → Ending 6 write_fault
  of_part case holds text read a p failed = record {
    bytes = read.bytes;
    text = p.front;
    moved = read.read.moved;
    grew = p.wrote;
    at_end = λ _. read.read.all;
    is = unwritten p.back p.missing failed (record {
      seen = read.bytes;
      later = [];
      parts = sym (append-nil read.bytes);
      seen_end = true;
      at_end = λ _. (read.came_to_end, refl);
      owed = owed_at_end case.trace read.whole a.few (subst (λ t. Out c f case.trace t) p.parts a.written);
    });
  }

  of_stop : (n : NoAnswer) → IsStop whole_limits f i.before i.after i.ended n → o.after ≡ o.before
      → (stop_for n ≡ Unread → HasFailed i) → {line : List ℕ} → IsStopLine f (stop_for n) line
      → Ending (status_of_stop (stop_for n)) line
  of_stop (reason.Fault fault) (x, is, read) same failed is_line = with_line (is_line x is) (record {
    bytes = read.bytes;
    text = [];
    moved = read.read.moved;
    grew = kept_all o.before o.after same;
    at_end = λ _. read.read.all;
    is = by_itself (faulty (x, read.fault, refl) (prompt_of c f read.bytes i.ended read.prompt) (owes_fault c f read.bytes i.ended x read.fault));
  })
  of_stop reason.Unread read same failed is_line = with_line is_line (record {
    bytes = read.bytes;
    text = [];
    moved = read.read.moved;
    grew = kept_all o.before o.after same;
    at_end = λ _. read.read.all;
    is = unread refl read.goes_on (failed refl) (λ line h. read.sound h.0 h.1) not_yet;
  })
  of_stop reason.NoMemory (bytes, moved) same failed is_line = with_line is_line (record {
    bytes = bytes;
    text = [];
    moved = moved;
    grew = kept_all o.before o.after same;
    at_end = λ n. absurd (n refl);
    is = no_memory (λ k. let h = k in cc) (inl refl);
  })
  of_stop (reason.Wide i den) is same failed is_line = absurd is
  of_stop (reason.TooMany count) is same failed is_line = absurd is

  of_unanswered : (case : Case) (n : NoAnswer) → IsReadWhole whole_limits f i.before i.after i.ended case
      → IsUnanswered c f case.trace n → o.after ≡ o.before → {line : List ℕ} → IsStopLine f (stop_for n) line
      → Ending (status_of_stop (stop_for n)) line
  of_unanswered case (reason.Fault fault) read is same is_line = absurd is
  of_unanswered case reason.Unread read is same is_line = absurd is
  of_unanswered case reason.NoMemory read is same is_line = of_stop reason.NoMemory (read.bytes, read.read.moved) same (λ k. absurd (let h = k in cc)) is_line
  of_unanswered case (reason.Wide n den) read (cause, few) same is_line = with_line is_line (record {
    bytes = read.bytes;
    text = [];
    moved = read.read.moved;
    grew = kept_all o.before o.after same;
    at_end = λ _. read.read.all;
    is = by_itself (as_wide n den (read.came_to_end, refl, record { tr = case.trace; trace = read.whole; cause = cause; few = few }));
  })
  of_unanswered case (reason.TooMany count) read many same is_line = with_line is_line (record {
    bytes = read.bytes;
    text = [];
    moved = read.read.moved;
    grew = kept_all o.before o.after same;
    at_end = λ _. read.read.all;
    is = by_itself (as_overfull count (read.came_to_end, (case.trace, read.whole, many)));
  })

  of_end : (ending : Result Bool Stop) → IsWholeEnd c f i o ending → (ending ≡ Err Unread → HasFailed i)
      → (ending ≡ Err Unwritten → HasRefused o) → {line : List ℕ} → IsEndLine f ending line
      → Ending (status_of ending) line
  of_end ending (answered case holds text read a (all_of_it w)) failed cut is_line = with_line is_line (of_answer case holds text read a w)
  of_end ending (answered case holds text read a (a_part w)) failed cut is_line = with_line is_line (of_part case holds text read a w (cut refl))
  of_end ending (unanswered case n read is same) failed cut is_line = of_unanswered case n read is same is_line
  of_end ending (stopped n is same) failed cut is_line = of_stop n is same (λ k. failed (ap Err k)) is_line

  -- a request that is known
  pub known_run : (ending : Result Bool Stop) (status : ℕ) (line : List ℕ) → status ≡ status_of ending → IsWholeEnd c f i o ending
      → (ending ≡ Err Unread → HasFailed i) → (ending ≡ Err Unwritten → HasRefused o)
      → (ending ≢ Err NoMemory → IsAskedOnce i) → IsEndLine f ending line → IsSaid e.before e.after e.faults e.faults_after line → IsRun words i o e status
  known_run ending status line same end failed cut once is_line said =
      let x = of_end ending end failed cut is_line in
      subst (λ s. IsRun words i o e s) (sym same) (record {
        bytes = x.bytes;
        text = x.text;
        line = line;
        moved = x.moved;
        grew = x.grew;
        said = said;
        ended = asked (of_whole c f) ask (λ k. absurd (let h = k in cc)) (λ n _. record { none_left = x.at_end n; once = once (λ k. n (ap status_of k)) })
            (λ b. absurd (false≢true b)) x.is;
      })

-- ---- statuses

-- a status of 2 or more is a failure
pub large_is : (e : Result Bool Stop) → 2 ≤ status_of e → IsErr e
large_is (Ok true) s = absurd (omega (arith, s))
large_is (Ok false) s = absurd (omega (arith, s))
large_is (Err stop) s = refl

-- that of a reason to stop is 4 or more
pub stop_high : (stop : Stop) → 4 ≤ status_of_stop stop
stop_high (Faulty fault) = omega arith
stop_high (FaultyLine fault) = omega arith
stop_high Unread = omega arith
stop_high Unwritten = omega arith
stop_high NoMemory = omega arith
stop_high (Wide i den) = omega arith
stop_high (TooMany count) = omega arith

-- no ending has the status of words or of a formula
pub not_words : (e : Result Bool Stop) → ¬ ((status_of e ≡ 2) ⊎ (status_of e ≡ 3))
not_words (Ok true) (inl s) = omega (arith, s)
not_words (Ok true) (inr s) = omega (arith, s)
not_words (Ok false) (inl s) = omega (arith, s)
not_words (Ok false) (inr s) = omega (arith, s)
not_words (Err stop) (inl s) = omega (arith, s, stop_high stop)
not_words (Err stop) (inr s) = omega (arith, s, stop_high stop)
