-- What a run wrote, however it ended, is the front of the one answer.
use Rattle.std.proofs.Common.{◌≡◌, ◌≢◌, inl, inr, ℕ, Bool, true, false, List, [], ◌∷◌, ◌++◌, refl, sym, ap, ◌∙◌, subst, append-nil, append_assoc}
use Rattle.std.proofs.lemmas.Bool.{false≢true}
use Rattle.io_edge.specs.Calls.{Drained, Filled}
use Rattle.stl_syntax.specs.Formula.{Formula}
use Rattle.report.specs.Report.{Command}
use Rattle.trace_stream.specs.Streams.{verdicts, early, margins}
use Rattle.trace_stream.proofs.OwedRows.{stream_owed_grows}
use Rattle.trace_stream.proofs.WideTexts.{AreFirst, wide_text_of_all}
use Rattle.session_laws.proofs.OwedLines.{lines_owed_grow}
use Rattle.workbench.specs.Requests.{Request, no_form, refused, whole, stream, sessions, generated, has_input}
use Rattle.workbench.specs.Owed.{OwesAtEnd, not_yet, too_many, Owes}
use Rattle.workbench.specs.Ended.{IsWide, IsOverfull, EndsWith}
use Rattle.workbench.specs.Running.{IsBegun, IsDue, IsEnd, by_itself, unread, unwritten, no_memory}
use Rattle.promises.proofs.OwedLaws.{begun_of_all, begun_of_lines}
use Rattle.run_laws.specs.OneAnswer.{IsFront}
use Rattle.run_laws.proofs.Endings.{IsEnding, at_fault, answer, too_wide, too_full, ending_of_all}
use Rattle.run_laws.proofs.OneEnding.{owed_once, answer_is_owed}
use Rattle.run_laws.proofs.NoInput.{made_end, summary_once, unread_once}

-- ---- texts

-- nothing is a front of each text
pub nil_front : (text all : List ℕ) → text ≡ [] → IsFront text all
nil_front text all e = (all, ap (λ t. t ++ all) (sym e))

same_front : (text all : List ℕ) → text ≡ all → IsFront text all
same_front text all e = ([], sym e ∙ sym (append-nil text))

-- a part of nothing is nothing
no_part : (text rest : List ℕ) → text ++ rest ≡ [] → text ≡ []
no_part [] rest e = refl
no_part (c ∷ text) rest e = absurd (let k = e in cc)

-- ---- what is owed for all bytes

-- too many cells are told with no text, which is what is owed
full_is_owed : (request : Request) (bytes : List ℕ) (count : ℕ) → IsOverfull request bytes true count → Owes request bytes true []
full_is_owed no_form bytes count h = absurd h
full_is_owed (refused l) bytes count h = absurd h
full_is_owed (whole c f) bytes count (e, (tr, is, many)) = too_many tr count is many
full_is_owed (stream s f) bytes count h = absurd h
full_is_owed (sessions f) bytes count h = absurd h
full_is_owed (generated n rows) bytes count h = absurd h

-- an ending that is no refusal for a denominator has the text that is owed
pub ending_is_owed : {request : Request} {bytes line text : List ℕ} {status : ℕ} → has_input request ≡ true → status ≢ 8
    → IsEnding request bytes status line text → Owes request bytes true text
ending_is_owed has narrow (at_fault h owed) = owed
ending_is_owed {request} {bytes} {text = text} {status = status} has narrow (answer h) = answer_is_owed request bytes text status has h
ending_is_owed has narrow (too_wide read left ended i den e at h) = absurd (narrow refl)
ending_is_owed {request} {bytes} has narrow (too_full count h) = full_is_owed request bytes count h

-- ---- a request with input, of whose bytes some were read

module _ (read left : List ℕ) (ended : Bool) (at : ended ≡ true → left ≡ []) (all : List ℕ) where
  -- the bytes that were answered are the first of all bytes
  begun_in_all : (request : Request) (text rest : List ℕ) → IsBegun request read ended text rest → IsBegun request (read ++ left) true text rest
  begun_in_all request text rest b = record {
    seen = b.seen;
    later = b.later ++ left;
    parts = ap (λ r. r ++ left) b.parts ∙ append_assoc b.seen b.later left;
    seen_end = b.seen_end;
    at_end = λ e. let done = b.at_end e in (refl, ap (λ l. l ++ left) done.1 ∙ at done.0);
    owed = b.owed;
  }

  -- what was begun of a whole answer
  whole_begun : (c : Command) (f : Formula) (text rest : List ℕ) → IsBegun (whole c f) (read ++ left) true text rest
      → OwesAtEnd c f (read ++ left) true all → IsFront text all
  whole_begun c f text rest b owed = by_end b.seen_end refl b.owed
    where
      by_end : (k : Bool) → b.seen_end ≡ k → OwesAtEnd c f b.seen k (text ++ rest) → IsFront text all
      by_end false e h = nil_front text all (no_part text rest (nothing h))
        where
          nothing : {x : List ℕ} → OwesAtEnd c f b.seen false x → x ≡ []
          nothing not_yet = refl
      by_end true e h =
          let same : b.seen ≡ read ++ left = sym (b.parts ∙ ap (λ l. b.seen ++ l) (b.at_end e).1 ∙ append-nil b.seen) in
          (rest, sym (owed_once (whole c f) (read ++ left) (text ++ rest) all refl (subst (λ bs. OwesAtEnd c f bs true (text ++ rest)) same h) owed))

  -- what was begun of any answer
  begun : (request : Request) (text rest : List ℕ) → has_input request ≡ true → IsBegun request read ended text rest
      → Owes request (read ++ left) true all → IsFront text all
  begun no_form text rest has b owed = absurd (false≢true has)
  begun (refused l) text rest has b owed = absurd (false≢true has)
  begun (whole c f) text rest has b owed = whole_begun c f text rest (begun_in_all (whole c f) text rest b) owed
  begun (stream s f) text rest has b owed = begun_of_all s f (read ++ left) true text rest all (begun_in_all (stream s f) text rest b) owed
  begun (sessions f) text rest has b owed = begun_of_lines f (read ++ left) true text rest all (begun_in_all (sessions f) text rest b) owed
  begun (generated n rows) text rest has b owed = absurd (false≢true has)

  -- what was owed where the source failed
  cut_short : (request : Request) (text : List ℕ) → has_input request ≡ true → Owes request read false text → Owes request (read ++ left) true all
      → IsFront text all
  cut_short no_form text has owed due = absurd (false≢true has)
  cut_short (refused l) text has owed due = absurd (false≢true has)
  cut_short (whole c f) text has owed due = nil_front text all (nothing owed)
    where
      nothing : {x : List ℕ} → OwesAtEnd c f read false x → x ≡ []
      nothing not_yet = refl
  cut_short (stream s f) text has owed due = stream_owed_grows s f read left true text all owed due
  cut_short (sessions f) text has owed due = lines_owed_grow f read left true text all owed due
  cut_short (generated n rows) text has owed due = absurd (false≢true has)

  -- what was written before a refusal for a denominator
  pub before_wide : (request : Request) (i den : ℕ) (text : List ℕ) → IsWide request read ended i den text → Owes request (read ++ left) true all
      → IsFront text all
  before_wide no_form i den text w owed = absurd w
  before_wide (refused l) i den text w owed = absurd w
  before_wide (whole c f) i den text (e, none, w) owed = nil_front text all none
  before_wide (stream verdicts f) i den text w owed = absurd w
  before_wide (stream early f) i den text w owed = absurd w
  before_wide (stream margins f) i den text w owed =
      let first : AreFirst read ended (read ++ left) true = record { later = left; parts = refl; at_end = λ e. (refl, at e) } in
      wide_text_of_all first w owed
  before_wide (sessions f) i den text w owed = absurd w
  before_wide (generated n rows) i den text w owed = absurd w

-- what an ending wrote
of_ending : {request : Request} {bytes line text : List ℕ} {status : ℕ} (all : List ℕ) → has_input request ≡ true
    → IsEnding request bytes status line text → Owes request bytes true all → IsFront text all
of_ending {request} {bytes} {text = text} all has (at_fault h owed) due = same_front text all (owed_once request bytes text all has owed due)
of_ending {request} {bytes} {text = text} {status = status} all has (answer h) due =
    same_front text all (owed_once request bytes text all has (answer_is_owed request bytes text status has h) due)
of_ending {request} all has (too_wide seen later end i den {text = text} parts at h) due =
    before_wide seen later end at all request i den text h (subst (λ bs. Owes request bs true all) parts due)
of_ending all has (too_full count h) due = nil_front [] all refl

-- so it is of each end of the request
pub front_of_end : {request : Request} {i : Drained} {o : Filled} {read text line : List ℕ} {status : ℕ} (left all : List ℕ) → has_input request ≡ true
    → (i.ended ≡ true → left ≡ []) → IsEnd request i o read text status line → Owes request (read ++ left) true all → IsFront text all
front_of_end {request} {i} {read = read} {text = text} {line = line} {status = status} left all has at (by_itself h) owed =
    of_ending all has (ending_of_all read left i.ended at request status line text has h) owed
front_of_end {request} {i} {read = read} {text = text} left all has at (unread input unended failed calm due) owed =
    cut_short read left i.ended at all request text has due owed
front_of_end {request} {i} {read = read} {text = text} left all has at (unwritten rest some failed b) owed =
    begun read left i.ended at all request text rest has b owed
front_of_end {text = text} left all has at (no_memory known (inl e)) owed = nil_front text all e
front_of_end {request} {i} {read = read} {text = text} left all has at (no_memory known (inr (rest, b))) owed =
    begun read left i.ended at all request text rest has b owed

-- ---- a request without input

-- what it is owed does not hang on bytes
unread_due : (request : Request) (bytes text rest all said : List ℕ) (ended also : Bool) {other : List ℕ} {status : ℕ} → has_input request ≡ false
    → IsDue request bytes ended (text ++ rest) → EndsWith other also request status said all → IsFront text all
unread_due no_form bytes text rest all said ended also has due end = nil_front text all (no_part text rest due)
unread_due (refused l) bytes text rest all said ended also has due end = nil_front text all (no_part text rest due)
unread_due (whole c f) bytes text rest all said ended also has due end = absurd (false≢true (sym has))
unread_due (stream s f) bytes text rest all said ended also has due end = absurd (false≢true (sym has))
unread_due (sessions f) bytes text rest all said ended also has due end = absurd (false≢true (sym has))
unread_due (generated n rows) bytes text rest all said ended also has due end =
    (rest, summary_once n rows all (text ++ rest) (made_end n rows end).2 due)

-- so it is of one without input
pub front_of_unread : {request : Request} {i : Drained} {o : Filled} {read text line : List ℕ} {status : ℕ} (other said all : List ℕ) (also : Bool) {n : ℕ}
    → has_input request ≡ false → IsEnd request i o read text status line → EndsWith other also request n said all → IsFront text all
front_of_unread {request} {i} {read = read} {text = text} other said all also has (by_itself h) end =
    same_front text all (unread_once request read other i.ended also has h end).texts
front_of_unread other said all also has (unread input unended failed calm due) end = absurd (false≢true (sym has ∙ input))
front_of_unread {request} {text = text} other said all also has (unwritten rest some failed b) end =
    unread_due request b.seen text rest all said b.seen_end also has b.owed end
front_of_unread {text = text} other said all also has (no_memory known (inl e)) end = nil_front text all e
front_of_unread {request} {text = text} other said all also has (no_memory known (inr (rest, b))) end =
    unread_due request b.seen text rest all said b.seen_end also has b.owed end
