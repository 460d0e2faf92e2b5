-- An input of several sessions: what bytes of a line, a line's end and the end of the input come to.
use Rattle.std.proofs.Common.{◌≡◌, inl, inr, ℕ, ◌+◌, ◌-◌, ◌<◌, ◌≤◌, Bool, true, false}
use Rattle.std.proofs.Common.{List, [], ◌∷◌, ◌++◌, length, take, drop, refl, sym, ap, ◌∙◌, subst}
use Rattle.std.proofs.Common.{arith, append-nil, append_assoc, length-append, take-append-drop}
use Rattle.std.specs.Prelude.{MatchResult, Result, Ok, Err, ◌==◌}
use Rattle.std.proofs.lemmas.Bool.{false≢true}
use Rattle.std.proofs.Math.Seq.{take-append_seam}
use Rattle.std.proofs.lemmas.List.{length_push}
use Rattle.std.proofs.lemmas.List.Elements.{All-nil, All-append}
use Rattle.stl_syntax.specs.Characters.{is_among}
use Rattle.stl_syntax.specs.Formula.{Formula}
use Rattle.trace_reader.specs.TraceText.{Line, lines, content, is_blank_line}
use Rattle.trace_reader.specs.Feeds.{HasNoFeed}
use Rattle.trace_reader.proofs.LineLemmas.{rest, lines-append, lines-line, lines-rest}
use Rattle.trace_reader.proofs.OpenLines.{grows}
use Rattle.trace_stream.proofs.FaultPlaces.{at_true, at_false}
use Rattle.session_mux.specs.Sessions.{Tagged, IsTagged, IsAnswer, AreAnswers, AreTagged}
use Rattle.session_mux.specs.Knowing.{IsRoomFor}
use Rattle.session_mux.specs.Muxes.{Muxed, Past, StandsFor, HasTaken, IsEndCall}
use Rattle.session_mux.specs.Inputs.{InputFault, fault_line, FaultOfInput, sound, faulted, OwesLines}
use Rattle.session_mux.specs.Taking.{ended_line, IsSized, ArePassed, none, blank, old_tag, new_tag}
use Rattle.session_mux.specs.Taking.{HasLines, IsTaking, fault_in, IsInputStop, IsLineStop, IsPartStop}
use Rattle.session_mux.specs.Taking.{HasAll, IsHanded, IsRefusedBy, IsNotHanded, IsUnsizedBy, IsUnsized}
use Rattle.session_mux.specs.declared.stop.FaultAt.{FaultAt}
use Rattle.session_mux.specs.declared.stop.LineKind.{LineKind}
use Rattle.session_mux.specs.declared.stop.LineKind.TheVariants as kind
use Rattle.session_mux.specs.declared.stop.InputStop.{InputStop}
use Rattle.session_mux.specs.declared.stop.InputStop.TheVariants.{Fault as Faulty, NoMemory}
use Rattle.session_mux.specs.declared.input.Input.{Input}
use Rattle.session_mux.proofs.LinesPass.{many_fault, long_fault, tag_fault, room_fault, fault_past, past_fault, passed_tagged}
use Rattle.session_mux.proofs.LinesPass.{passed_on, known_tag, known_count}

-- ---- the answers so far

answers_on : (f : Formula) (seen all : List Tagged) (x : Tagged) (text answer : List ℕ) → AreAnswers f seen all text
    → IsAnswer f (seen ++ all) x answer → AreAnswers f seen (all ++ x ∷ []) (text ++ answer)
answers_on f seen [] x text answer e a =
    (answer, [], subst (λ s. IsAnswer f s x answer) (append-nil seen) a, refl, ap (λ t. t ++ answer) e ∙ sym (append-nil answer))
answers_on f seen (y ∷ all) x text answer (here, later, is, more, e) a = (
  here,
  later ++ answer,
  is,
  answers_on f (seen ++ y ∷ []) all x later answer more (subst (λ s. IsAnswer f s x answer) (sym (append_assoc seen (y ∷ []) all)) a),
  ap (λ t. t ++ answer) e ∙ append_assoc here later answer,
)

-- ---- faults

place_of : (n : ℕ) (k : LineKind) → fault_line (fault_in n k) ≡ n
place_of n kind.TooManyLines = refl
place_of n kind.TooLong = refl
place_of n kind.BadTag = refl
place_of n kind.TooManySessions = refl

-- a fault of the line after those that were taken
fault_there : {f : Formula} {mux : Muxed} {front : List Line} {text : List ℕ} (more : List Line) (all : List ℕ) (ended : Bool)
    (k : HasLines f mux front text) (l : LineKind) → lines ended all ≡ front ++ more
    → FaultOfInput (1 + length front) k.after more (fault_in (1 + length front) l)
    → FaultOfInput 1 [] (lines ended all) (fault_in (1 + length front) l) × OwesLines f all ended text
fault_there {front = front} more all ended k l e fault =
    let x = fault_in (1 + length front) l in
    let place : fault_line x - 1 ≡ length front = omega (arith, place_of (1 + length front) l) in
    let here : FaultOfInput 1 [] (lines ended all) x = subst (λ ls. FaultOfInput 1 [] ls x) (sym e) (fault_past k.passed more x fault) in
    let first : front ≡ take (fault_line x - 1) (lines ended all) =
    sym (ap (λ n. take n (lines ended all)) place ∙ ap (take (length front)) e ∙ take-append_seam front more) in (
      here,
      record { tagged = k.tagged; whole = false; before = faulted x here (subst (λ ls. AreTagged ls k.tagged) first (passed_tagged k.passed)); is = k.said },
    )

-- so of a stored one
pub stored_there : {f : Formula} {mux : Muxed} {front : List Line} {text : List ℕ} (more : List Line) (all : List ℕ) (ended : Bool)
    (k : HasLines f mux front text) (x : FaultAt) → x.line ≡ 1 + length front → lines ended all ≡ front ++ more
    → FaultOfInput (1 + length front) k.after more (fault_in (1 + length front) x.kind) → IsInputStop f all ended text (Faulty x)
stored_there {f} {text = text} more all ended k x at e fault =
    subst (λ m. FaultOfInput 1 [] (lines ended all) (fault_in m x.kind) × OwesLines f all ended text) (sym at)
    (fault_there more all ended k x.kind e fault)

-- the line has too many before it, or too many bytes
unsized_fault : (known : List (List ℕ)) (line : Line) (more : List Line) (n size : ℕ) (l : LineKind) → size ≤ length line.bytes
    → IsUnsizedBy n size l → FaultOfInput n known (line ∷ more) (fault_in n l)
unsized_fault known line more n size kind.TooManyLines fits u = many_fault n known line more u
unsized_fault known line more n size kind.TooLong fits (few, long) = long_fault n known line more few (omega (arith, fits, long))
unsized_fault known line more n size kind.BadTag fits u = absurd u
unsized_fault known line more n size kind.TooManySessions fits u = absurd u

unsized_there : {f : Formula} {mux : Muxed} {front : List Line} {text : List ℕ} (line : Line) (more : List Line) (all : List ℕ) (ended : Bool)
    (k : HasLines f mux front text) (size : ℕ) (e : InputStop) → size ≤ length line.bytes → lines ended all ≡ front ++ line ∷ more
    → IsUnsized (1 + length front) size e → IsInputStop f all ended text e
unsized_there {front = front} line more all ended k size (Faulty x) fits e (at, u) =
    stored_there (line ∷ more) all ended k x at e (unsized_fault k.after line more (1 + length front) size x.kind fits u)
unsized_there line more all ended k size NoMemory fits e u = absurd u

-- the sessions refused it
pub refused_fault : {f : Formula} {mux : Muxed} {front : List Line} {text : List ℕ} (line : List ℕ) (more : List Line)
    (k : HasLines f mux front text) (l : LineKind) → IsSized (1 + length front) (length line)
    → is_blank_line (ended_line line) ≡ false → IsRefusedBy (record { formula = f; seen = k.tagged }) line l
    → FaultOfInput (1 + length front) k.after (ended_line line ∷ more) (fault_in (1 + length front) l)
refused_fault line more k kind.TooManyLines sized b r = absurd r
refused_fault line more k kind.TooLong sized b r = absurd r
refused_fault {front = front} line more k kind.BadTag sized b r = tag_fault (1 + length front) k.after (ended_line line) more sized refl b r
refused_fault {front = front} line more k kind.TooManySessions sized b ((t, is, a), full) =
    room_fault (1 + length front) k.after (ended_line line) more sized refl b t is (known_tag t.tag k.passed ∙ a)
    (let e = known_count k.passed in omega (arith, e, full))

refused_there : {f : Formula} {mux : Muxed} {front : List Line} (line before written after : List ℕ) (k : HasLines f mux front (written ++ before))
    (e : InputStop) → IsSized (1 + length front) (length line)
    → IsNotHanded (record { formula = f; seen = k.tagged }) (1 + length front) line before after e → IsLineStop f front line (written ++ after) e
refused_there {f} line before written after k (Faulty x) sized (at, b, same, r) = λ all ended later e.
    subst (λ t. IsInputStop f all ended t (Faulty x)) (ap (λ t. written ++ t) (sym same))
    (stored_there (ended_line line ∷ later) all ended k x at e (refused_fault line later k x.kind sized b r))
refused_there line before written after k NoMemory sized r = λ all ended later e. tt

-- ---- bytes of a line

module _ (f : Formula) (i : Input) (bytes written part : List ℕ) (k : IsTaking f i bytes written) (free : HasNoFeed part) where
  both_free : HasNoFeed (i.part ++ part)
  both_free = All-append (λ c. c ≡ 10 → ⊥) i.part part k.free free

  joined : (e : Bool) (more : List ℕ) → lines e ((bytes ++ part) ++ more) ≡ k.front ++ lines e ((i.part ++ part) ++ more)
  joined e more =
      ap (lines e) (append_assoc bytes part more) ∙ k.joins e (part ++ more) ∙ ap (λ b. k.front ++ lines e b) (sym (append_assoc i.part part more))

  -- they are too many, or of a line too many
  pub part_unsized : (e : InputStop) → 0 < length part → IsUnsized (i.whole + 1) (length i.part + length part) e
      → IsPartStop f (bytes ++ part) (written ++ i.text) e
  part_unsized e some u = λ ended more.
      let size = length-append i.part part in
      let (l, ls, is, fits) = grows ended (i.part ++ part) more both_free (omega (arith, some, size)) in
      let number : i.whole + 1 ≡ 1 + length k.front = (let c = k.count in omega (arith, c)) in
      unsized_there l ls ((bytes ++ part) ++ more) ended k.taken (length i.part + length part) e (omega (arith, fits, size))
      (joined ended more ∙ ap (λ ls. k.front ++ ls) is) (subst (λ n. IsUnsized n (length i.part + length part) e) number u)

-- ---- a line that has ended

-- one line more
one_line : {f : Formula} {old new : Muxed} {front : List Line} (line before after written : List ℕ)
    (k : HasLines f old front (written ++ before)) → IsSized (1 + length front) (length line)
    → IsHanded (record { formula = f; seen = k.tagged }) line new before after → HasLines f new (front ++ ended_line line ∷ []) (written ++ after)
one_line {f} {new = new} {front = front} line before after written k sized handed = by_blank (is_blank_line (ended_line line)) refl
  where
    Took : Type 0
    Took = (x : Tagged) × IsTagged (content (ended_line line)) x × HasTaken (record { formula = f; seen = k.tagged }) x new before after

    with_answer : (x : Tagged) → HasTaken (record { formula = f; seen = k.tagged }) x new before after → AreAnswers f [] (k.tagged ++ x ∷ []) (written ++ after)
    with_answer x h = subst (λ t. AreAnswers f [] (k.tagged ++ x ∷ []) t)
        (append_assoc written before h.answer ∙ ap (λ t. written ++ t) (sym h.added))
        (answers_on f [] k.tagged x (written ++ before) h.answer k.said h.is)

    by_tag : is_blank_line (ended_line line) ≡ false → (x : Tagged) → IsTagged (content (ended_line line)) x
        → HasTaken (record { formula = f; seen = k.tagged }) x new before after → (b : Bool) → is_among x.tag k.after ≡ b
        → HasLines f new (front ++ ended_line line ∷ []) (written ++ after)
    by_tag b x is h true a = record {
      tagged = k.tagged ++ x ∷ [];
      after = k.after;
      passed = passed_on k.passed (old_tag {line = ended_line line} sized refl b is a none);
      stands = h.stands;
      said = with_answer x h;
    }
    by_tag b x is h false a = record {
      tagged = k.tagged ++ x ∷ [];
      after = x.tag ∷ k.after;
      passed = passed_on k.passed (new_tag {line = ended_line line} sized refl b is a (room h.room) none);
      stands = h.stands;
      said = with_answer x h;
    }
      where
        room : IsRoomFor k.tagged x → length k.after < 1024
        room (inl among) = absurd (let e : false ≡ true = sym a ∙ known_tag x.tag k.passed ∙ among in cc)
        room (inr few) = let e = known_count k.passed in omega (arith, e, few)

    by_blank : (b : Bool) → is_blank_line (ended_line line) ≡ b → HasLines f new (front ++ ended_line line ∷ []) (written ++ after)
    by_blank true b =
        let (stands, same) =
        at_true (StandsFor (record { formula = f; seen = k.tagged }) new × (after ≡ before)) Took (is_blank_line (ended_line line)) b handed in
        record {
          tagged = k.tagged;
          after = k.after;
          passed = subst (λ ts. ArePassed 1 [] (front ++ ended_line line ∷ []) ts k.after) (append-nil k.tagged)
              (passed_on k.passed (blank {line = ended_line line} sized refl b none));
          stands = stands;
          said = subst (λ t. AreAnswers f [] k.tagged t) (ap (λ t. written ++ t) (sym same)) k.said;
        }
    by_blank false b =
        let (x, is, h) =
        at_false (StandsFor (record { formula = f; seen = k.tagged }) new × (after ≡ before)) Took (is_blank_line (ended_line line)) b handed in
        by_tag b x is h (is_among x.tag k.after) refl

module _ (f : Formula) (i : Input) (bytes written : List ℕ) (k : IsTaking f i bytes written) where
  number_is : i.whole + 1 ≡ 1 + length k.front
  number_is = let c = k.count in omega (arith, c)

  -- it is too long, or one too many
  pub line_unsized : (e : InputStop) → IsUnsized (i.whole + 1) (length i.part) e → IsLineStop f k.front i.part (written ++ i.text) e
  line_unsized e u = λ all ended later is.
      unsized_there (ended_line i.part) later all ended k.taken (length i.part) e (omega arith) is
      (subst (λ n. IsUnsized n (length i.part) e) number_is u)

  -- the sessions refused it
  pub line_refused : (after : List ℕ) (e : InputStop) → IsSized (i.whole + 1) (length i.part)
      → IsNotHanded (record { formula = f; seen = k.taken.tagged }) (i.whole + 1) i.part i.text after e
      → IsLineStop f k.front i.part (written ++ after) e
  line_refused after e sized r =
      refused_there i.part i.text written after k.taken e (subst (λ n. IsSized n (length i.part)) number_is sized)
      (subst (λ n. IsNotHanded (record { formula = f; seen = k.taken.tagged }) n i.part i.text after e) number_is r)

  -- it was answered
  pub line_answered : (mux : Muxed) (after : List ℕ) → IsSized (i.whole + 1) (length i.part)
      → IsHanded (record { formula = f; seen = k.taken.tagged }) i.part mux i.text after
      → HasLines f mux (k.front ++ ended_line i.part ∷ []) (written ++ after)
  line_answered mux after sized h =
      one_line i.part i.text after written k.taken (subst (λ n. IsSized n (length i.part)) number_is sized) h

  lines_with : (e : Bool) (more : List ℕ) → lines e (bytes ++ 10 ∷ more) ≡ (k.front ++ ended_line i.part ∷ []) ++ lines e more
  lines_with e more =
      k.joins e (10 ∷ more)
      ∙ ap (λ ls. k.front ++ ls) (lines-append e i.part more ∙ ap (λ ls. ls ++ lines e more) (lines-line i.part k.free))
      ∙ sym (append_assoc k.front (ended_line i.part ∷ []) (lines e more))

  -- with its LF
  pub with_feed : (new : Input) → new.part ≡ [] → new.whole ≡ i.whole + 1 → IsSized (i.whole + 1) (length i.part)
      → HasLines f new.mux (k.front ++ ended_line i.part ∷ []) (written ++ new.text)
      → IsTaking f new (bytes ++ 10 ∷ []) written
  with_feed new empty next (few, short) taken = record {
    front = k.front ++ ended_line i.part ∷ [];
    free = subst (λ b. HasNoFeed b) (sym empty) (All-nil (λ c. c ≡ 10 → ⊥));
    joins = λ e more.
        ap (lines e) (append_assoc bytes (10 ∷ []) more) ∙ lines_with e more ∙ ap (λ b. (k.front ++ ended_line i.part ∷ []) ++ lines e (b ++ more)) (sym empty);
    count = (let c = k.count in omega (arith, c, next, length_push k.front (ended_line i.part)));
    few = omega (arith, few, next);
    part_few = λ some. absurd (let z : length new.part ≡ 0 = ap length empty in omega (arith, z, some));
    short = (let z : length new.part ≡ 0 = ap length empty in omega (arith, z));
    small = (let a = k.small in let z : length new.part ≡ 0 = ap length empty in omega (arith, a, z, next, short, length_push bytes 10));
    taken = taken;
  }

  -- and all bytes after it
  pub fed_stop : (more text : List ℕ) (e : InputStop) → IsLineStop f k.front i.part text e → IsInputStop f (bytes ++ 10 ∷ more) false text e
  fed_stop more text e stop =
      stop (bytes ++ 10 ∷ more) false (lines false more) (lines_with false more ∙ append_assoc k.front (ended_line i.part ∷ []) (lines false more))

  -- ---- the end

  lines_all : lines true bytes ≡ k.front ++ rest true i.part
  lines_all =
      sym (ap (lines true) (append-nil bytes)) ∙ k.joins true []
      ∙ ap (λ ls. k.front ++ ls) (ap (lines true) (append-nil i.part) ∙ lines-rest true i.part k.free)

  some_rest : (part : List ℕ) → (length part ≡ 0 → ⊥) → rest true part ≡ ended_line part ∷ []
  some_rest [] some = absurd (some refl)
  some_rest (c ∷ cs) some = refl

  -- there is one
  pub last_some : (length i.part ≡ 0 → ⊥) → (new : Input) (r : Result (Unit {0}) InputStop)
      → MatchResult r (λ _. HasLines f new.mux (k.front ++ ended_line i.part ∷ []) (written ++ new.text)) (IsLineStop f k.front i.part (written ++ new.text))
      → MatchResult r (λ _. HasLines f new.mux (k.front ++ rest true i.part) (written ++ new.text)) (λ e. IsInputStop f bytes true (written ++ new.text) e)
  last_some some new (Ok x) h = subst (λ ls. HasLines f new.mux (k.front ++ ls) (written ++ new.text)) (sym (some_rest i.part some)) h
  last_some some new (Err e) h = h bytes true [] (lines_all ∙ ap (λ ls. k.front ++ ls) (some_rest i.part some))

  -- all lines were taken
  no_fault : (mux : Muxed) (text : List ℕ) → (h : HasLines f mux (k.front ++ rest true i.part) text) → (x : InputFault)
      → ¬ FaultOfInput 1 [] (lines true bytes) x
  no_fault mux text h x fault =
      past_fault h.passed [] x (subst (λ ls. FaultOfInput 1 [] ls x) (lines_all ∙ sym (append-nil (k.front ++ rest true i.part))) fault)

  -- once the end was told to the sessions, the whole input has its text
  pub all_taken : (mid new : Muxed) (before after : List ℕ) → HasLines f mid (k.front ++ rest true i.part) (written ++ before)
      → ((p : Past) → StandsFor p mid → IsEndCall p new before after (Ok tt)) → HasAll f new bytes (written ++ after)
  all_taken mid new before after h end =
      let ((ends, are, added), stands) = end (record { formula = f; seen = h.tagged }) h.stands in
      let tagged : AreTagged (lines true bytes) h.tagged = subst (λ ls. AreTagged ls h.tagged) (sym lines_all) (passed_tagged h.passed) in
      record {
        owed = record {
          tagged = h.tagged;
          whole = true;
          before = sound (no_fault mid (written ++ before) h) tagged;
          is = (written ++ before, ends, h.said, are, ap (λ t. written ++ t) added ∙ sym (append_assoc written before ends));
        };
        sound = no_fault mid (written ++ before) h;
        seen = h.tagged;
        are = tagged;
        stands = stands;
      }

-- the first of all
pub taking_none : (f : Formula) (i : Input) → i.part ≡ [] → i.text ≡ [] → i.whole ≡ 0 → StandsFor (record { formula = f; seen = [] }) i.mux → IsTaking f i [] []
taking_none f i empty none_made zero_lines stands = record {
  front = [];
  free = subst (λ b. HasNoFeed b) (sym empty) (All-nil (λ c. c ≡ 10 → ⊥));
  joins = λ e more. ap (λ b. lines e (b ++ more)) (sym empty);
  count = zero_lines;
  few = omega (arith, zero_lines);
  part_few = λ some. omega (arith, zero_lines);
  short = (let z : length i.part ≡ 0 = ap length empty in omega (arith, z));
  small = omega arith;
  taken = record { tagged = []; after = []; passed = none; stands = stands; said = none_made };
}

-- there are some bytes
pub some_of : (part : List ℕ) → false ≡ (length part == 0) → 0 < length part
some_of [] e = absurd (false≢true e)
some_of (c ∷ cs) e = omega arith

-- a part of a line whose length is not 0 is not empty
pub not_none : (part : List ℕ) → false ≡ (length part == 0) → length part ≡ 0 → ⊥
not_none part e empty = omega (arith, some_of part e, empty)

-- a piece up to its first LF, the LF, and the rest
module _ (piece : List ℕ) (at : ℕ) (taken : take (at + 1) piece ≡ take at piece ++ 10 ∷ []) where
  -- the bytes before, a line up to its LF and the rest of the piece are all bytes
  pub piece_parts : (bytes : List ℕ) → (bytes ++ take at piece) ++ 10 ∷ drop (at + 1) piece ≡ bytes ++ piece
  piece_parts bytes =
      append_assoc bytes (take at piece) (10 ∷ drop (at + 1) piece)
      ∙ ap (λ p. bytes ++ p) (sym (append_assoc (take at piece) (10 ∷ []) (drop (at + 1) piece))
      ∙ ap (λ p. p ++ drop (at + 1) piece) (sym taken) ∙ take-append-drop (at + 1) piece)

  -- the bytes before and a line with its LF are the bytes and the front of the piece
  pub piece_front : (bytes : List ℕ) → (bytes ++ take at piece) ++ 10 ∷ [] ≡ bytes ++ take (at + 1) piece
  piece_front bytes = append_assoc bytes (take at piece) (10 ∷ []) ∙ ap (λ p. bytes ++ p) (sym taken)
