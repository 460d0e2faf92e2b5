-- What a session's calls come to.
use Rattle.std.proofs.Common.{◌≡◌, inl, inr, refl, sym, ap, subst, ◌∙◌, ℕ, Bool, true, false, cond, List, [], ◌++◌, append_assoc, Some, None, Result, Ok, Err}
use Rattle.std.specs.Prelude.{codes, map, ◌||◌, MatchResult, OnOk, OnErr}
use Rattle.std.proofs.lemmas.Bool.{false≢true}
use Rattle.std.proofs.lemmas.List.{append-nil, append_cancel_left}
use Rattle.std.proofs.lemmas.Grind.{flat_map-append}
use Rattle.circular_buffer.specs.Buffer.{Buffer, buffer, keep_last}
use Rattle.answer_lines.specs.Appended.{GrewInPart, Is}
use Rattle.answer_lines.specs.FaultTexts.{fault_text}
use Rattle.stl_syntax.specs.Formula.{Formula}
use Rattle.stl_syntax.specs.Texts.{newline}
use Rattle.trace_reader.specs.TraceText.{Line, lines}
use Rattle.trace_reader.specs.InputFaults.{Fault, stream_limits, IsInputFault}
use Rattle.trace_reader.specs.declared.refusal.Limits.{Limits}
use Rattle.trace_reader.proofs.LineLemmas.{lines-nil}
use Rattle.trace_stream.specs.Streams.{verdicts}
use Rattle.trace_stream.specs.Following.{IsTextOf, IsLive, IsOver, IsLiveStop}
use Rattle.trace_stream.specs.declared.fault.TraceFault.{TraceFault}
use Rattle.trace_stream.specs.declared.fault.StreamStop.{StreamStop}
use Rattle.trace_stream.specs.declared.fault.StreamStop.TheVariants.{Fault as Faulty, NoMemory, Wide}
use Rattle.trace_stream.specs.declared.live.Live.{Live}
use Rattle.verdict_stream.specs.declared.verdicts.Verdicts.{Verdicts}
use Rattle.trace_stream.proofs.FaultPlaces.{at_true, at_false, to_true, to_false}
use Rattle.trace_stream.proofs.RowsBefore.{fault_stays}
use Rattle.trace_stream.proofs.Told.{told_now, calm_now, live_after, told_over}
use Rattle.session_mux.specs.Sessions.{Alone, prefixed, last_eight}
use Rattle.session_mux.specs.Saying.{texts, prefixed_texts, said_lines, HasSaid}
use Rattle.session_mux.specs.Owning.{Own, asks, stops, next_line, stopped_now, with_content}
use Rattle.session_mux.specs.Standing.{IsOwnText, HasFault, HasStopped, WatchesRows, WatchesEnd, IsOpen}
use Rattle.session_mux.specs.Standing.{HasReason, IsStoppedAt, GoesOnWith, recent_of, HasSaidSoFar, IsGrowth}
use Rattle.session_mux.specs.Standing.{HasGrown, IsCutShort, IsAfterLine, IsReply, HasReplied}
use Rattle.session_mux.specs.declared.session.Session.{Session}
use Rattle.session_mux.proofs.RecentLemmas.{prefixed_last}
use Rattle.session_mux.proofs.OneText.{text_alone_once}
use Rattle.session_mux.proofs.TextLemmas.{EndsInFeed, alone_ends, text_ends, ends_tail, lines_joined}
use Rattle.session_mux.proofs.TextLemmas.{texts_joined, alone_of, alone_faulted, alone_stays}

-- ---- parts of replies

-- nothing was added
pub cut_none : (Reply : List ℕ → Type 0) (before after : List ℕ) → after ≡ before → IsCutShort Reply before after
cut_none Reply before after e = record { first = []; added = e ∙ sym (append-nil before); begins = λ reply r. (reply, refl) }

-- the text of what a session had got, and more of it by what it has got now
pub record Grows (f : Formula) (o p : Own) (said grown : List ℕ) : Type 0 where
  -- what was said is the text of what it had got
  pub was : IsOwnText f o said
  -- and with what is said now, the text of what it has got now
  pub is : IsOwnText f p (said ++ grown)

module _ {f : Formula} {o p : Own} {said grown : List ℕ} (g : Grows f o p said grown) (tag : List ℕ) where
  -- a text grows by one text
  pub growth_once : (reply : List ℕ) → IsGrowth f tag o p reply → reply ≡ said_lines tag grown
  growth_once reply (old, more, a, b, e) =
      let same : old ≡ said = text_alone_once f o.bytes o.stopped old said a g.was in
      let whole : old ++ more ≡ said ++ grown = text_alone_once f p.bytes p.stopped (old ++ more) (said ++ grown) b g.is in
      e ∙ ap (λ t. said_lines tag t) (append_cancel_left said more grown (sym (ap (λ t. t ++ more) same) ∙ whole))

  -- a part of its lines was added
  pub cut_short : (before after : List ℕ) → GrewInPart (Is (said_lines tag grown)) before after → IsCutShort (IsGrowth f tag o p) before after
  cut_short before after (a, b, whole, k) = record { first = a; added = k; begins = λ reply r. (b, growth_once reply r ∙ sym whole) }

  -- all of them were
  pub has_grown : (old new : Buffer (List ℕ)) (before after : List ℕ) (After : List ℕ → Type 0) → old ≡ recent_of said
      → HasSaid tag grown old new before after → After (said ++ grown)
      → HasGrown f tag p said new before after After
  has_grown old new before after After e has_said then_is = record {
    grown = grown;
    alone = g.is;
    recent_is = has_said.kept (texts said) e ∙ ap (λ ts. buffer (keep_last 8 ts) 8) (sym (texts_joined said grown (alone_ends f o.bytes o.stopped said g.was)));
    added = has_said.added;
    then = then_is;
  }

-- ---- a text and then another

module _ (tag text line : List ℕ) (whole : EndsInFeed text) where
  -- the lines of two texts, of which the first is whole, are said one after the other
  pub both_lines : said_lines tag (text ++ line) ≡ said_lines tag text ++ said_lines tag line
  both_lines = ap (λ ls. prefixed (tag ++ codes " ") ls) (lines_joined text line whole)
      ∙ flat_map-append (λ (l : Line). (tag ++ codes " ") ++ l.bytes ++ newline) (lines true text) (lines true line)

  -- two texts said one after the other are said as one
  pub said_both : (old mid new : Buffer (List ℕ)) (before between after : List ℕ) → HasSaid tag text old mid before between
      → HasSaid tag line mid new between after
      → HasSaid tag (text ++ line) old new before after
  said_both old mid new before between after a b = record {
    added = b.added ∙ ap (λ w. w ++ said_lines tag line) a.added ∙ append_assoc before (said_lines tag text) (said_lines tag line)
        ∙ ap (λ w. before ++ w) (sym both_lines);
    kept = λ said e. b.kept (said ++ texts text) (a.kept said e)
        ∙ ap (λ ts. buffer (keep_last 8 ts) 8) (append_assoc said (texts text) (texts line) ∙ ap (λ ts. said ++ ts) (sym (texts_joined text line whole)));
    room = b.room;
  }

  -- a cut in the first of two texts is a cut in both
  pub cut_in_first : (before after : List ℕ) → GrewInPart (Is (said_lines tag text)) before after → GrewInPart (Is (said_lines tag (text ++ line))) before after
  cut_in_first before after (a, b, e, k) =
      (a, b ++ said_lines tag line, sym (append_assoc a b (said_lines tag line)) ∙ ap (λ w. w ++ said_lines tag line) e ∙ sym both_lines, k)

  -- a cut in the second of two texts, behind the whole first, is a cut in both
  pub cut_in_second : (before between after : List ℕ) → between ≡ before ++ said_lines tag text → GrewInPart (Is (said_lines tag line)) between after
      → GrewInPart (Is (said_lines tag (text ++ line))) before after
  cut_in_second before between after s (a, b, e, k) = (
    said_lines tag text ++ a,
    b,
    append_assoc (said_lines tag text) a b ∙ ap (λ w. said_lines tag text ++ w) e ∙ sym both_lines,
    k ∙ ap (λ w. w ++ a) s ∙ append_assoc before (said_lines tag text) a,
  )

-- ---- what was said, or a part of it

-- each of two outcomes
pub either_way : {T E P Q R S : Type 0} (r : Result T E) → (P → R) → (Q → S) → MatchResult r (λ _. P) (λ _. Q) → MatchResult r (λ _. R) (λ _. S)
either_way (Ok x) f g h = f h
either_way (Err e) f g h = g h

-- the text of a reader was said
pub said_text : {T E : Type 0} (r : Result T E) {f : Formula} {o p : Own} {said grown : List ℕ} → Grows f o p said grown
    → (tag : List ℕ) (old new : Buffer (List ℕ)) (before after : List ℕ) (After : List ℕ → Type 0) → old ≡ recent_of said → After (said ++ grown)
    → MatchResult r (λ _. HasSaid tag grown old new before after) (λ _. GrewInPart (Is (said_lines tag grown)) before after)
    → MatchResult r (λ _. HasGrown f tag p said new before after After) (λ _. IsCutShort (IsGrowth f tag o p) before after)
said_text r g tag old new before after After recent then_is h =
    either_way r (λ has_said. has_grown g tag old new before after After recent has_said then_is) (cut_short g tag before after) h

-- ---- a reader that stopped

module _ (f : Formula) (tag : List ℕ) (o p : Own) (said text : List ℕ) (fault : TraceFault) (was : IsOwnText f o said)
    (stop : IsStoppedAt f p (said ++ text) (Faulty fault)) where
  abbrev pub last_line : List ℕ
  last_line = fault_text stop.0

  stop_ends : EndsInFeed text
  stop_ends = ends_tail said text (text_ends stream_limits f p.bytes p.stopped (said ++ text) stop.3)

  stop_alone : IsOwnText f p (said ++ (text ++ last_line))
  stop_alone = subst (λ t. IsOwnText f p t) (append_assoc said text last_line) (alone_faulted f p.bytes p.stopped (said ++ text) stop.3 stop.0 stop.2)

  -- so the text of the session grew
  stop_grows : Grows f o p said (text ++ last_line)
  stop_grows = record { was = was; is = stop_alone }

  -- a session that stops and is cut in its text is cut short
  pub stop_cut_first : (before after : List ℕ) → GrewInPart (Is (said_lines tag text)) before after → IsCutShort (IsGrowth f tag o p) before after
  stop_cut_first before after g = cut_short stop_grows tag before after (cut_in_first tag text last_line stop_ends before after g)

  -- a text that was said and the last line, said or cut, come to the session's growth, or a cut in it
  pub stop_said : {T E : Type 0} (r : Result T E) (old mid new : Buffer (List ℕ)) (before between after : List ℕ)
      → old ≡ recent_of said → HasSaid tag text old mid before between
      → MatchResult r (λ _. HasSaid tag last_line mid new between after) (λ _. GrewInPart (Is (said_lines tag last_line)) between after)
      → MatchResult r (λ _. HasGrown f tag p said new before after (λ _. HasStopped f p)) (λ _. IsCutShort (IsGrowth f tag o p) before after)
  stop_said r old mid new before between after recent has_said h =
      either_way r
      (λ line. has_grown stop_grows tag old new before after (λ _. HasStopped f p) recent
      (said_both tag text last_line stop_ends old mid new before between after has_said line) (stop.0, stop.2))
      (λ g. cut_short stop_grows tag before after (cut_in_second tag text last_line stop_ends before between after has_said.added g)) h

-- the limits and the formula are those of the reader
pub stopped_at : (f : Formula) (bytes said : List ℕ) (live : Live Verdicts) (all text : List ℕ) (ended : Bool) (stop : StreamStop) → IsOpen f bytes said live
    → IsLiveStop verdicts live.rows.limits live.formula ended all text stop → IsLiveStop verdicts stream_limits f ended all text stop
stopped_at f bytes said live all text ended stop open_for h =
    subst (λ (g : Formula). IsLiveStop verdicts stream_limits g ended all text stop) open_for.formula
    (subst (λ (l : Limits). IsLiveStop verdicts l live.formula ended all text stop) open_for.limits h)

-- what stopped it is one of the formula
pub reason_of : (limits : Limits) (f : Formula) (bytes text : List ℕ) (ended : Bool) (stop : StreamStop)
    → IsLiveStop verdicts limits f ended bytes text stop → HasReason f stop
reason_of limits f bytes text ended (Faulty fault) (x, is, input, t) = (x, is)
reason_of limits f bytes text ended NoMemory h = tt
reason_of limits f bytes text ended (Wide i den) h = absurd h

-- ---- a reader that goes on

module _ (f : Formula) (limits : Limits) (bytes said : List ℕ) (mid : Live Verdicts)
    (k : IsLive WatchesRows verdicts mid bytes said) (formula : mid.formula ≡ f) (limit : mid.rows.limits ≡ stream_limits) where
  calm_so_far : (x : Fault) → ¬ IsInputFault stream_limits f bytes false x
  calm_so_far =
      subst (λ (g : Formula). (x : Fault) → ¬ IsInputFault stream_limits g bytes false x) formula
      (subst (λ (l : Limits). (x : Fault) → ¬ IsInputFault l mid.formula bytes false x) limit (calm_now WatchesRows verdicts mid bytes said k))

  -- what was said and the text of the line are what the session writes alone
  pub alone_so_far : Alone f bytes false (said ++ mid.text)
  alone_so_far =
      alone_of f bytes false (said ++ mid.text)
      (subst (λ (g : Formula). IsTextOf verdicts stream_limits g bytes false (said ++ mid.text)) formula
      (subst (λ (l : Limits). IsTextOf verdicts l mid.formula bytes false (said ++ mid.text)) limit (told_now WatchesRows verdicts mid bytes said k)))
      calm_so_far

  -- once its text is let go a session is open for its next line
  pub open_now : IsOpen f bytes (said ++ mid.text) (record mid { text = [] })
  open_now = record { formula = formula; limits = limit; empty = refl; stands = live_after WatchesRows verdicts mid bytes said k }

-- a reader whose trace is over
pub alone_at_end : (f : Formula) (bytes said : List ℕ) (live new : Live Verdicts) (holds : Bool) → IsOpen f bytes said live
    → IsOver WatchesEnd verdicts live.rows.limits live.formula new bytes (said ++ new.text) holds → Alone f bytes true (said ++ new.text)
alone_at_end f bytes said live new holds open_for k =
    let over : IsOver WatchesEnd verdicts stream_limits f new bytes (said ++ new.text) holds =
    subst (λ (g : Formula). IsOver WatchesEnd verdicts stream_limits g new bytes (said ++ new.text) holds) open_for.formula
    (subst (λ (l : Limits). IsOver WatchesEnd verdicts l live.formula new bytes (said ++ new.text) holds) open_for.limits k) in
    alone_of f bytes true (said ++ new.text) (told_over WatchesEnd verdicts stream_limits f new bytes (said ++ new.text) holds over) over.trace.sound

-- ---- contents

-- the line of a session that was not stopped
pub line_of_open : (o : Own) (content : List ℕ) → o.stopped ≡ false → next_line o content ≡ record { bytes = o.bytes ++ (content ++ newline); stopped = false }
line_of_open o content e = by_stop o.stopped e
  where
    by_stop : (b : Bool) → b ≡ false → cond b o (record { bytes = o.bytes ++ (content ++ newline); stopped = b })
        ≡ record { bytes = o.bytes ++ (content ++ newline); stopped = false }
    by_stop true e = absurd (false≢true (sym e))
    by_stop false e = refl

-- a session that has stopped takes no line
pub line_of_stopped : (o : Own) (content : List ℕ) → o.stopped ≡ true → next_line o content ≡ o
line_of_stopped o content e = ap (λ b. cond b o (record { bytes = o.bytes ++ (content ++ newline); stopped = o.stopped })) e

-- a query adds nothing to what a session has got
pub content_asks : (o : Own) (content : List ℕ) → asks content ≡ true → with_content o content ≡ o
content_asks o content e = by_tests (asks content) e
  where
    by_tests : (a : Bool) → a ≡ true → cond (a || o.stopped) o
        (cond (stops content) (record { bytes = o.bytes; stopped = true }) (record { bytes = o.bytes ++ (content ++ newline); stopped = o.stopped })) ≡ o
    by_tests true e = refl
    by_tests false e = absurd (false≢true e)

-- a line that stops a session leaves its bytes
pub content_stops : (bytes : List ℕ) (stopped : Bool) (content : List ℕ) → asks content ≡ false → stops content ≡ true
    → with_content (record { bytes = bytes; stopped = stopped }) content ≡ record { bytes = bytes; stopped = true }
content_stops bytes true content e k = by_test (asks content)
  where
    by_test : (a : Bool) → ◌≡◌ {A = Own} (cond (a || true) (record { bytes = bytes; stopped = true })
        (cond (stops content) (record { bytes = bytes; stopped = true }) (record { bytes = bytes ++ (content ++ newline); stopped = true })))
        (record { bytes = bytes; stopped = true })
    by_test true = refl
    by_test false = refl
content_stops bytes false content e k = by_tests (asks content) (stops content) e k
  where
    by_tests : (a z : Bool) → a ≡ false → z ≡ true → ◌≡◌ {A = Own} (cond (a || false) (record { bytes = bytes; stopped = false })
        (cond z (record { bytes = bytes; stopped = true }) (record { bytes = bytes ++ (content ++ newline); stopped = false })))
        (record { bytes = bytes; stopped = true })
    by_tests true z e k = absurd (false≢true (sym e))
    by_tests false true e k = refl
    by_tests false false e k = absurd (false≢true k)

-- any other line is the session's next
pub content_goes_on : (o : Own) (content : List ℕ) → asks content ≡ false → stops content ≡ false → with_content o content ≡ next_line o content
content_goes_on o content e k = by_tests (asks content) (stops content) e k
  where
    by_tests : (a z : Bool) → a ≡ false → z ≡ false → cond (a || o.stopped) o
        (cond z (record { bytes = o.bytes; stopped = true }) (record { bytes = o.bytes ++ (content ++ newline); stopped = o.stopped }))
        ≡ cond o.stopped o (record { bytes = o.bytes ++ (content ++ newline); stopped = o.stopped })
    by_tests true z e k = absurd (false≢true (sym e))
    by_tests false true e k = absurd (false≢true (sym k))
    by_tests false false e k = refl

-- ---- a session that is over

module _ (f : Formula) (o : Own) (said : List ℕ) (was : IsOwnText f o said) (over : GoesOnWith f o said None) where
  faulted : o.stopped ≡ false → HasFault f o.bytes
  faulted e = elim over [ inl k ↦ absurd (false≢true (sym e ∙ k)) | inr k ↦ k ]

  -- a session that has stopped stays as it is at a line
  pub over_at_line : (content : List ℕ) → IsOwnText f (next_line o content) said × GoesOnWith f (next_line o content) said None
  over_at_line content = by_stop o.stopped refl
    where
      by_stop : (b : Bool) → o.stopped ≡ b → IsOwnText f (next_line o content) said × GoesOnWith f (next_line o content) said None
      by_stop true e = subst (λ (p : Own). IsOwnText f p said × GoesOnWith f p said None) (sym (line_of_stopped o content e)) (was, over)
      by_stop false e =
          let fault = faulted e in
          subst (λ (p : Own). IsOwnText f p said × GoesOnWith f p said None) (sym (line_of_open o content e)) (
            alone_stays f o.bytes (content ++ newline) false said fault (subst (λ (b : Bool). Alone f o.bytes b said) e was),
            inr (fault.0, fault_stays stream_limits f o.bytes (content ++ newline) false fault.0 fault.1),
          )

  -- a session that has stopped stays as it is at the end of the input
  pub over_at_end : IsOwnText f (stopped_now o) said
  over_at_end = by_stop o.stopped refl
    where
      by_stop : (b : Bool) → o.stopped ≡ b → Alone f o.bytes true said
      by_stop true e = subst (λ (b : Bool). Alone f o.bytes b said) e was
      by_stop false e =
          subst (λ bytes. Alone f bytes true said) (append-nil o.bytes)
          (alone_stays f o.bytes [] true said (faulted e) (subst (λ (b : Bool). Alone f o.bytes b said) e was))

-- nothing grew
pub no_growth : (f : Formula) (tag : List ℕ) (o p : Own) (said : List ℕ) → IsOwnText f o said → IsOwnText f p said → IsGrowth f tag o p []
no_growth f tag o p said a b =
    (said, [], a, subst (λ t. IsOwnText f p t) (sym (append-nil said)) b, sym (ap (λ ls. prefixed (tag ++ codes " ") ls) (lines-nil true)))

-- no lines were said
pub no_recent : buffer [] 8 ≡ recent_of []
no_recent = ap (λ ls. buffer (keep_last 8 (map (λ (line : Line). line.bytes) ls)) 8) (sym (lines-nil true))

-- ---- sessions

-- a session that is over says nothing more
pub says_nothing : (f : Formula) (o p : Own) (said out : List ℕ) (s : Session) → HasSaidSoFar f o said s → IsOwnText f p said
    → GoesOnWith f p said s.stream → HasReplied f p s s (IsGrowth f s.tag o p) out out
says_nothing f o p said out s h is on = record {
  tag = refl;
  said = said;
  stands = record { alone = is; recent = h.recent; goes_on = on };
  reply = [];
  is = no_growth f s.tag o p said h.alone is;
  added = sym (append-nil out);
}

-- the reply under another name
pub replied_as : (f : Formula) (p q : Own) (old new : Session) (R S : List ℕ → Type 0) (before after : List ℕ) → p ≡ q
    → ((reply : List ℕ) → R reply → S reply) → HasReplied f p old new R before after
    → HasReplied f q old new S before after
replied_as f p q old new R S before after e g h = record {
  tag = h.tag;
  said = h.said;
  stands = subst (λ (o : Own). HasSaidSoFar f o h.said new) e h.stands;
  reply = h.reply;
  is = g h.reply h.is;
  added = h.added;
}

-- what is cut short for one description is so for another that it implies
pub cut_as : (R S : List ℕ → Type 0) (before after : List ℕ) → ((reply : List ℕ) → S reply → R reply) → IsCutShort R before after → IsCutShort S before after
cut_as R S before after g h = record { first = h.first; added = h.added; begins = λ reply s. h.begins reply (g reply s) }

-- a content that asks for nothing has the lines by which the text grows
module _ (f : Formula) (tag : List ℕ) (o p : Own) (content : List ℕ) (no_question : asks content ≡ false) (then_is : with_content o content ≡ p) where
  -- the growth of a session is the reply to its line
  pub reply_of : (reply : List ℕ) → IsGrowth f tag o p reply → IsReply f tag o content reply
  reply_of reply h = to_false _ _ (asks content) no_question (subst (λ (q : Own). IsGrowth f tag o q reply) (sym then_is) h)

  -- the reply to its line is the growth of a session
  pub growth_of : (reply : List ℕ) → IsReply f tag o content reply → IsGrowth f tag o p reply
  growth_of reply h = subst (λ (q : Own). IsGrowth f tag o q reply) then_is (at_false _ _ (asks content) no_question h)

-- a question
module _ (f : Formula) (o : Own) (said : List ℕ) (s : Session) (h : HasSaidSoFar f o said s) (content : List ℕ) (question : asks content ≡ true) where
  abbrev shown : List ℕ
  shown = prefixed (s.tag ++ codes " ? ") (last_eight (lines true said))

  shown_is : prefixed_texts (s.tag ++ codes " ? ") s.recent.items ≡ shown
  shown_is = ap (λ (b : Buffer (List ℕ)). prefixed_texts (s.tag ++ codes " ? ") b.items) h.recent ∙ prefixed_last (s.tag ++ codes " ? ") said

  -- the last eight lines, said or cut, are the reply to a query
  pub is_shown : {E : Type 0} (r : Result (Unit {0}) E) (before after : List ℕ)
      → OnOk r (after ≡ before ++ prefixed_texts (s.tag ++ codes " ? ") s.recent.items)
      → OnErr r (GrewInPart (Is (prefixed_texts (s.tag ++ codes " ? ") s.recent.items)) before after)
      → MatchResult r (λ _. HasReplied f (with_content o content) s s (IsReply f s.tag o content) before after)
      (λ _. IsCutShort (IsReply f s.tag o content) before after)
  is_shown (Ok x) before after e g = record {
    tag = refl;
    said = said;
    stands = subst (λ (q : Own). HasSaidSoFar f q said s) (sym (content_asks o content question)) h;
    reply = shown;
    is = to_true _ _ (asks content) question (said, h.alone, refl);
    added = e ∙ ap (λ w. before ++ w) shown_is;
  }
  is_shown (Err x) before after e (a, b, whole, k) = record {
    first = a;
    added = k;
    begins = λ reply r.
        let (old, is, same) = at_true _ _ (asks content) question r in (
          b,
          same ∙ ap (λ t. prefixed (s.tag ++ codes " ? ") (last_eight (lines true t)))
              (text_alone_once f o.bytes o.stopped old said is h.alone) ∙ sym shown_is ∙ sym whole,
        );
  }

-- whatever follows
pub unasked : (f : Formula) (tag : List ℕ) (p : Own) (said : List ℕ) (recent : Buffer (List ℕ)) (before after : List ℕ)
    (After : List ℕ → Type 0) → HasGrown f tag p said recent before after After
    → HasGrown f tag p said recent before after (λ _. Unit {0})
unasked f tag p said recent before after After g = record { grown = g.grown; alone = g.alone; recent_is = g.recent_is; added = g.added; then = tt }

-- ---- a line of an open session

module _ (f : Formula) (tag : List ℕ) (o : Own) (content said : List ℕ) (going : o.stopped ≡ false) where
  abbrev all_bytes : List ℕ
  all_bytes = o.bytes ++ (content ++ newline)

  module _ (mid : Live Verdicts) (k : IsLive WatchesRows verdicts mid (o.bytes ++ (content ++ newline)) said)
      (formula : mid.formula ≡ f) (limit : mid.rows.limits ≡ stream_limits) where
    -- after a line a session's text is what it writes alone
    pub line_alone : IsOwnText f (next_line o content) (said ++ mid.text)
    line_alone = subst (λ (q : Own). IsOwnText f q (said ++ mid.text)) (sym (line_of_open o content going))
        (alone_so_far f stream_limits all_bytes said mid k formula limit)

    -- after a line, with its text let go, a session is open for the next
    pub line_open : (new : Live Verdicts) → new ≡ record mid { text = [] } → IsAfterLine f (next_line o content).bytes true new (said ++ mid.text)
    line_open new e =
        subst (λ (q : Own). IsAfterLine f q.bytes true new (said ++ mid.text)) (sym (line_of_open o content going))
        (subst (λ (n : Live Verdicts). IsOpen f all_bytes (said ++ mid.text) n) (sym e) (open_now f stream_limits all_bytes said mid k formula limit))

  -- it stopped in the line
  pub line_stopped : (text : List ℕ) (stop : StreamStop) → IsLiveStop verdicts stream_limits f false
      (o.bytes ++ (content ++ newline)) text stop → IsStoppedAt f (next_line o content) text stop
  line_stopped text stop h = subst (λ (q : Own). IsStoppedAt f q text stop) (sym (line_of_open o content going)) h

  -- a session whose line had a fault has stopped
  pub line_faulted : (recent : Buffer (List ℕ)) (before after : List ℕ) (live : Live Verdicts)
      → HasGrown f tag (next_line o content) said recent before after (λ _. HasStopped f (next_line o content))
      → HasGrown f tag (next_line o content) said recent before after (IsAfterLine f (next_line o content).bytes false live)
  line_faulted recent before after live g = record {
    grown = g.grown;
    alone = g.alone;
    recent_is = g.recent_is;
    added = g.added;
    then = (
      g.then.0,
      subst (λ (b : Bool). IsInputFault stream_limits f (next_line o content).bytes b g.then.0)
          (ap (λ (q : Own). q.stopped) (line_of_open o content going)) g.then.1,
    );
  }

-- ---- what a call of a session comes to

-- the reader said more
pub grew_under : {f : Formula} {p : Own} {tag said before after : List ℕ} {After : List ℕ → Type 0} (o : Own) (old new : Session)
    → tag ≡ old.tag → new.tag ≡ old.tag → IsOwnText f o said
    → (g : HasGrown f tag p said new.recent before after After) → GoesOnWith f p (said ++ g.grown) new.stream
    → HasReplied f p old new (IsGrowth f old.tag o p) before after
grew_under {said = said} {before = before} o old new under same was g on = record {
  tag = same;
  said = said ++ g.grown;
  stands = record { alone = g.alone; recent = g.recent_is; goes_on = on };
  reply = said_lines old.tag g.grown;
  is = (said, g.grown, was, g.alone, refl);
  added = g.added ∙ ap (λ t. before ++ said_lines t g.grown) under;
}

-- it took a line
pub took_line : (f : Formula) (o : Own) (content said : List ℕ) (live : Live Verdicts) → o.stopped ≡ false → (text : List ℕ)
    → IsAfterLine f (next_line o content).bytes true live text
    → GoesOnWith f (next_line o content) text (Some live)
took_line f o content said live going text h = (ap (λ (q : Own). q.stopped) (line_of_open o content going), h)

-- a session that has stopped at a line stands for nothing more
pub took_last_line : (f : Formula) (o : Own) (content : List ℕ) (live : Live Verdicts) (text : List ℕ)
    → IsAfterLine f (next_line o content).bytes false live text → GoesOnWith f (next_line o content) text None
took_last_line f o content live text h = inr h
