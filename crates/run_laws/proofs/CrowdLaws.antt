-- The laws of a bench in a crowd.
use Rattle.std.proofs.Common.{◌≡◌, ◌≢◌, ◌⊎◌, inl, inr, ℕ, Bool, true, false, List, [], ◌++◌, refl, sym, ap, ◌∙◌, subst, arith}
use Rattle.std.proofs.Common.{append_assoc, append-nil, Some}
use Rattle.std.specs.Io.KnownBytes.{IsAtEnd}
use Rattle.std.proofs.lemmas.Bool.{false≢true}
use Rattle.io_edge.specs.Calls.{Drained, Filled}
use Rattle.stl_syntax.specs.Characters.{is_among}
use Rattle.stl_syntax.specs.Formula.{Formula}
use Rattle.stl_grammar.specs.FormulaRefusals.{IsFormulaOf}
use Rattle.trace_reader.specs.TraceText.{lines}
use Rattle.session_laws.specs.Hearing.{heard, HaveTags}
use Rattle.session_mux.specs.Inputs.{InputFault, FaultOfInput, AreLinesBefore, sound, faulted, OwesLines}
use Rattle.session_mux.specs.Saying.{texts}
use Rattle.session_mux.specs.Sessions.{Tagged, IsTag, AreTagged, own, is_stopped, tags_after, Alone, AreAnswers, MuxText}
use Rattle.session_laws.proofs.HearingLemmas.{hears_what_is_said}
use Rattle.session_laws.proofs.OwedLines.{answers_alone, lines_before_once, lines_before_grow}
use Rattle.session_mux.proofs.OneText.{text_alone_once}
use Rattle.session_laws.proofs.SessionsSaid.{as_alone}
use Rattle.session_mux.proofs.TextLemmas.{EndsInFeed, alone_ends, texts_joined}
use Rattle.workbench.specs.Requests.{Request, has_input, Asks, stream, sessions, verdicts}
use Rattle.workbench.specs.Ended.{IsAnswered, faulty, answered, wide, overfull}
use Rattle.workbench.specs.Running.{IsBegun, IsEnd, by_itself, unread, unwritten, no_memory, IsRun}
use Rattle.promises.proofs.BenchesHear.{have_tags, is_a_tag, hears_own_stream, hears_the_same, read_names}
use Rattle.promises.proofs.CompleteRuns.{rest_of}
use Rattle.promises.proofs.OneRequest.{one_request}
use Rattle.run_laws.specs.OneAnswer.{IsOwn, IsFront}
use Rattle.run_laws.specs.Crowd.{heard_whole, HearsItsOwnRun, OthersChangeNothing, HearsAFront}
use Rattle.run_laws.proofs.Crowd.{watch_alone, alone_goes_on}
use Rattle.run_laws.proofs.Endings.{IsEnding, at_fault, answer, too_wide, too_full}
use Rattle.run_laws.proofs.FirstLines.{own_grows, own_stays}
use Rattle.run_laws.proofs.OwnEnds.{has_own_end, own_ending, HowEnded, known, starved, how_ended, none_left_at_end}
use Rattle.run_laws.proofs.WholeLines.{heard_first, heard_nothing}

-- ---- runs of one request

-- a run of words that ask for a request with input, by all bytes
asked_ending : {words : List (List ℕ)} {i : Drained} {o e : Filled} {status : ℕ} (request : Request) (bytes : List ℕ) → Asks words request → IsOwn status
    → i.before ≡ Some bytes → (a : IsRun words i o e status) → has_input request ≡ true → IsEnding request bytes status a.line a.text
asked_ending {words} {i} {status = status} request bytes ask own held a has =
    let x = has_own_end own a.ended in
    let same = one_request words x.request request x.asks ask in
    subst (λ (q : Request). IsEnding q bytes status a.line a.text) same (own_ending bytes x (ap has_input same ∙ has) held a.moved)

zero_answered : {request : Request} {bytes line text : List ℕ} {status : ℕ} → status ≡ 0 → IsEnding request bytes status line text
    → IsAnswered request bytes true 0 text
zero_answered e (at_fault h owed) = absurd (omega (arith, e))
zero_answered {request} {bytes} {text = text} e (answer h) = subst (λ n. IsAnswered request bytes true n text) e h
zero_answered e (too_wide read left ended i den k at h) = absurd (omega (arith, e))
zero_answered e (too_full count h) = absurd (omega (arith, e))

own_zero : IsOwn 0
own_zero = ((λ k. omega (arith, k)), (λ k. omega (arith, k)), (λ k. omega (arith, k)))

-- a run of `mux` that ended with 0 answered
crowd_answered : {words : List (List ℕ)} {f : Formula} {bytes : List ℕ} {i : Drained} {o e : Filled} → Asks words (sessions f) → i.before ≡ Some bytes
    → (a : IsRun words i o e 0) → IsAnswered (sessions f) bytes true 0 a.text
crowd_answered {f = f} {bytes = bytes} ask held a = zero_answered refl (asked_ending (sessions f) bytes ask own_zero held a refl)

-- a bench hears its own run
pub hears_its_own_run : HearsItsOwnRun
hears_its_own_run words alone f bytes seen t i j o e p g other ask also held are among source a b own_end =
    let (said, alone_text, heard_is) = hears_own_stream ask.text f bytes a.text 0 ask.is (crowd_answered ask held a) seen are t among in
    let watched = watch_alone (asked_ending (stream verdicts f) (own seen t) also own_end source b refl) in
    heard_is ∙ ap texts (text_alone_once f (own seen t) true said (b.text ++ b.line) alone_text watched)

-- whatever others send
pub others_change_nothing : OthersChangeNothing
others_change_nothing words asked f bytes also seen others t i j o e p g ask ask_too held are among source are_too among_too same a b =
    hears_the_same ask.is (record { status = 0; answered = crowd_answered ask held a; seen = seen; are = are; among = among })
    (record { status = 0; answered = crowd_answered ask_too source b; seen = others; are = are_too; among = among_too }) same

-- ---- tags

before_tags : {bytes : List ℕ} {ended whole : Bool} {seen : List Tagged} → AreLinesBefore bytes ended seen whole → HaveTags seen
before_tags (sound calm are) = have_tags are
before_tags (faulted x fault are) = have_tags are

-- ---- a run that was cut short

-- the text is the front of what is owed for the first of the bytes
record IsOfFirst (f : Formula) (bytes text : List ℕ) : Type 0 where
  seen : List ℕ
  beyond : List ℕ
  parts : bytes ≡ seen ++ beyond
  seen_end : Bool
  at_end : seen_end ≡ true → beyond ≡ []
  rest : List ℕ
  owed : OwesLines f seen seen_end (text ++ rest)

begun_of_first : {f : Formula} {read text rest : List ℕ} {ended : Bool} (left : List ℕ) → (ended ≡ true → left ≡ [])
    → IsBegun (sessions f) read ended text rest → IsOfFirst f (read ++ left) text
begun_of_first {rest = rest} left at b = record {
  seen = b.seen;
  beyond = b.later ++ left;
  parts = ap (λ r. r ++ left) b.parts ∙ append_assoc b.seen b.later left;
  seen_end = b.seen_end;
  at_end = λ e. let done = b.at_end e in ap (λ l. l ++ left) done.1 ∙ at done.0;
  rest = rest;
  owed = b.owed;
}

owed_of_first : {f : Formula} {read text : List ℕ} (ended : Bool) (left : List ℕ) → (ended ≡ true → left ≡ []) → OwesLines f read ended text
    → IsOfFirst f (read ++ left) text
owed_of_first {f} {read} {text} ended left at owed = record {
  seen = read;
  beyond = left;
  parts = refl;
  seen_end = ended;
  at_end = at;
  rest = [];
  owed = subst (λ x. OwesLines f read ended x) (sym (append-nil text)) owed;
}

-- however it ended it wrote such a text, or nothing
of_first : {f : Formula} {i : Drained} {o : Filled} {read text line : List ℕ} {status : ℕ} (left : List ℕ) → (i.ended ≡ true → left ≡ [])
    → IsEnd (sessions f) i o read text status line → (text ≡ []) ⊎ IsOfFirst f (read ++ left) text
of_first {i = i} left at (by_itself (faulty h prompt owed)) = inr (owed_of_first i.ended left at owed)
of_first left at (by_itself (answered h)) = inr (owed_of_first true left (λ e. at h.0) h.2)
of_first left at (by_itself (wide n den h)) = absurd h
of_first left at (by_itself (overfull count h)) = absurd h
of_first left at (unread has unended failed calm owed) = inr (owed_of_first false left (λ e. absurd (false≢true e)) owed)
of_first left at (unwritten rest some failed b) = inr (begun_of_first left at b)
of_first left at (no_memory some (inl e)) = inl e
of_first left at (no_memory some (inr (rest, b))) = inr (begun_of_first left at b)

-- ---- what the bench hears

module _ (formula : List ℕ) (f : Formula) (bytes : List ℕ) (seen : List Tagged) (t watched : List ℕ) (read : IsFormulaOf formula f)
    (among : is_among t (tags_after [] seen) ≡ true) (tag : IsTag t) (alone : Alone f (own seen t) true watched) where
  -- it hears a front of what its own lines get alone
  abbrev HearsFront : List ℕ → Type 0
  HearsFront text = (said : List ℕ) × (heard t text ≡ texts said) × EndsInFeed said × IsFront said watched

  -- of the answers to the first of the lines
  of_answers : (first others : List Tagged) (text : List ℕ) → seen ≡ first ++ others → HaveTags first → AreAnswers f [] first text → HearsFront text
  of_answers first others text e tags answers =
      let (said, to, alone_text) = as_alone f t first text answers in
      let (more, grown) = own_grows first others t in
      let bytes_are : own seen t ≡ own first t ++ more = ap (λ ls. own ls t) e ∙ grown in
      let stays : is_stopped first t ≡ true → own first t ++ more ≡ own first t = λ h. sym grown ∙ own_stays first others t h in (
        said,
        hears_what_is_said f t first text said (read_names formula f read) tag tags to,
        alone_ends f (own first t) (is_stopped first t) said alone_text,
        alone_goes_on f (own first t) more said watched (is_stopped first t) stays alone_text (subst (λ bs. Alone f bs true watched) bytes_are alone),
      )

  -- of all lines and their ends
  of_whole : (text : List ℕ) → OwesLines f bytes true text → ((x : InputFault) → ¬ FaultOfInput 1 [] (lines true bytes) x) → AreTagged (lines true bytes) seen
      → HearsFront text
  of_whole text owed calm are =
      let (said, alone_text, heard_is) = hears_own_stream formula f bytes text 0 read (refl, refl, owed, calm) seen are t among in (
        said,
        heard_is,
        alone_ends f (own seen t) true said alone_text,
        ([], text_alone_once f (own seen t) true watched said alone alone_text ∙ sym (append-nil said)),
      )

  -- of what is owed for the first of the bytes
  of_owed : {first : List ℕ} {beyond text : List ℕ} {whole w : Bool} {tagged : List Tagged} (ended : Bool) → bytes ≡ first ++ beyond
      → (ended ≡ true → beyond ≡ []) → AreLinesBefore bytes true seen w → AreLinesBefore first ended tagged whole → MuxText f tagged whole text
      → OwesLines f first ended text → HearsFront text
  of_owed {first} {beyond} {text} {w = w} {tagged = tagged} false e at all before m owed =
      let (others, k) = lines_before_grow first beyond true before (subst (λ bs. AreLinesBefore bs true seen w) e all) in
      of_answers tagged others text k (before_tags before) (answers_alone f first text before m)
  of_owed {first} {beyond} {text} {w = w} {tagged = tagged} true e at all before m owed = by_fault here before m
    where
      same : first ≡ bytes
      same = sym (e ∙ ap (λ r. first ++ r) (at refl) ∙ append-nil first)

      here : AreLinesBefore first true seen w
      here = subst (λ bs. AreLinesBefore bs true seen w) (sym same) all

      by_fault : {v whole : Bool} → AreLinesBefore first true seen v → AreLinesBefore first true tagged whole → MuxText f tagged whole text → HearsFront text
      by_fault mine (faulted x fault are) m =
          of_answers tagged [] text ((lines_before_once first true mine (faulted x fault are)).0 ∙ sym (append-nil tagged)) (have_tags are) m
      by_fault (faulted x fault are) (sound calm also) m = absurd (calm x fault)
      by_fault (sound calm are) (sound quiet also) m =
          of_whole text (subst (λ bs. OwesLines f bs true text) same owed)
          (subst (λ bs. (x : InputFault) → ¬ FaultOfInput 1 [] (lines true bs) x) same calm)
          (subst (λ bs. AreTagged (lines true bs) seen) same are)

-- a bench hears a front of its own run
pub hears_a_front : HearsAFront
hears_a_front words alone f bytes seen whole t i j o e p g status other ask also held before among source a b truly own_end = by_end (how_ended a.ended)
  where
    watched : Alone f (own seen t) true (b.text ++ b.line)
    watched = watch_alone (asked_ending (stream verdicts f) (own seen t) also own_end source b refl)

    nothing : a.text ≡ [] → (later : List (List ℕ)) × (texts (b.text ++ b.line) ≡ heard_whole t a.text ++ later)
    nothing none_written = (texts (b.text ++ b.line), ap (λ ts. ts ++ texts (b.text ++ b.line)) (sym (ap (heard_whole t) none_written ∙ heard_nothing t)))

    of_part : IsOfFirst f bytes a.text → (later : List (List ℕ)) × (texts (b.text ++ b.line) ≡ heard_whole t a.text ++ later)
    of_part x =
        let (said, heard_is, ends, (more, e)) = of_owed ask.text f bytes seen t (b.text ++ b.line) ask.is among (is_a_tag t [] seen (before_tags before) among)
        watched x.seen_end x.parts x.at_end before x.owed.before x.owed.is x.owed in
        let (later, first) = heard_first t a.text x.rest in (
          later ++ texts more,
          ap texts e ∙ texts_joined said more ends ∙ ap (λ ts. ts ++ texts more) (sym heard_is ∙ first)
              ∙ append_assoc (heard_whole t a.text) later (texts more),
        )

    by_end : HowEnded words i o a.bytes a.text status a.line → (later : List (List ℕ)) × (texts (b.text ++ b.line) ≡ heard_whole t a.text ++ later)
    by_end (starved none_written e) = nothing none_written
    by_end (known request asks out end) =
        let same = one_request words request (sessions f) asks ask in
        let mine = subst (λ (q : Request). IsEnd q i o a.bytes a.text status a.line) same end in
        let (left, after, parts) = rest_of i.before i.after bytes a.bytes held a.moved in
        let at : i.ended ≡ true → left ≡ [] =
        λ said. subst IsAtEnd after (none_left_at_end truly (λ n. out n (ap has_input same)) said) in
        elim (of_first left at mine) [
          | inl none_written ↦ nothing none_written
          | inr x ↦ of_part (subst (λ bs. IsOfFirst f bs a.text) (sym parts) x)
        ]
