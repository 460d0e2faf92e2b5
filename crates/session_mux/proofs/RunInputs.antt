-- Lines of one session that follow one another in an input: what it stands for once their session took them together.
use Rattle.std.proofs.Common.{◌≡◌, ◌≢◌, ◌⊎◌, inl, inr, refl, sym, ap, subst, ◌∙◌, ℕ, suc, ◌+◌, ◌-◌, ◌*◌, ◌<◌, ◌≤◌, Bool, true, false}
use Rattle.std.proofs.Common.{List, [], ◌∷◌, ◌++◌, append_assoc, append-nil, length, take, drop}
use Rattle.std.proofs.Common.{arith, length-append, take-append-drop, take-add, length-drop, get_or, get_or-append-add}
use Rattle.std.specs.Prelude.{All, reverse, ◌&&◌, ◌||◌, ◌==◌, if◌then◌else◌, map, Ok, Err}
use Rattle.std.proofs.lemmas.Bool.{false≢true, eqb-true, and_parts, cases_lt}
use Rattle.std.proofs.lemmas.Grind.{flat_map-append}
use Rattle.std.proofs.lemmas.List.{length-take-le, length_push, take_all, take-append-le, reverse-append, reverse-reverse}
use Rattle.std.proofs.lemmas.List.Elements.{All-head, All-tail, All-nil, All-cons, All-append, All-get_or, All-take}
use Rattle.std.proofs.Math.Seq.{take-append_seam}
use Rattle.rational.proofs.Lists.{take_rest}
use Rattle.answer_lines.proofs.TextsBehind.{take_past}
use Rattle.memchr.specs.Find.{is_byte, NoneBefore, Passes}
use Rattle.std.proofs.lemmas.Slice.Eq.{bytes_eq-Decides}
use Rattle.stl_syntax.specs.Characters.{is_space, all, is_among}
use Rattle.stl_syntax.specs.Formula.{Formula}
use Rattle.stl_syntax.specs.Texts.{newline}
use Rattle.trace_reader.specs.Feeds.{HasNoFeed}
use Rattle.trace_reader.specs.TraceText.{Line, lines, content as content_of, is_blank_line}
use Rattle.trace_reader.proofs.FeedLemmas.{at-free, at-taken}
use Rattle.trace_reader.proofs.LineLemmas.{lines-append, lines-line}
use Rattle.trace_stream.proofs.FaultPlaces.{at_false}
use Rattle.session_mux.specs.Sessions.{Tagged, IsTag, tag, IsTagged, followed, is_tag_byte, AreAnswers}
use Rattle.session_mux.specs.Owning.{Own, IsWithFeed, asks, stops}
use Rattle.session_mux.specs.Standing.{HasSaidSoFar}
use Rattle.session_mux.specs.Knowing.{EachHasSaid, IsRoomFor, tags_of}
use Rattle.session_mux.specs.Muxes.{Muxed, Past, StandsFor, HasTaken, IsLineCall, IsTakenLine}
use Rattle.session_mux.specs.Taking.{ended_line, IsSized, ArePassed, none, old_tag, new_tag, HasLines, IsTaking, IsInputStop, IsRefusedBy}
use Rattle.session_mux.specs.Running.{RunLine, IsRunLine, bytes_of, contents_of, tagged_of, IsOwnLine, HasGathered, IsRunRefused}
use Rattle.session_mux.specs.declared.fault.MuxFault.TheVariants as fault
use Rattle.session_mux.specs.declared.session.Session.{Session}
use Rattle.session_mux.specs.declared.stop.InputStop.{InputStop}
use Rattle.session_mux.specs.declared.stop.InputStop.TheVariants.{Fault as Faulty, NoMemory}
use Rattle.session_mux.specs.declared.stop.LineKind.{LineKind}
use Rattle.session_mux.specs.declared.stop.LineKind.TheVariants as kind
use Rattle.session_mux.specs.declared.input.Input.{Input}
use Rattle.session_mux.proofs.FrontTexts.{take_beyond}
use Rattle.session_mux.proofs.InputBytes.{stored_there, refused_fault}
use Rattle.session_mux.proofs.LinesPass.{passed_on, known_tag, known_count}
use Rattle.session_mux.proofs.RunLemmas.{contents_end, run_as_one, tags_as_one, run_answers}
use Rattle.session_mux.proofs.OneTag.{tagged_once}

-- ---- a tag

byte_no_space : (c : ℕ) → is_tag_byte c ≡ true → is_space c ≡ false
byte_no_space c is = by_tests (c == 32) (c == 9) refl refl
  where
    by_tests : (a b : Bool) → (c == 32) ≡ a → (c == 9) ≡ b → (a || b) ≡ false
    by_tests true b e k = absurd (false≢true (subst (λ d. is_tag_byte d ≡ true) (eqb-true c 32 e) is))
    by_tests false true e k = absurd (false≢true (subst (λ d. is_tag_byte d ≡ true) (eqb-true c 9 k) is))
    by_tests false false e k = refl

-- a line that begins with a tag is not blank
pub tag_not_blank : (t more : List ℕ) → IsTag t → all is_space (t ++ more) ≡ false
tag_not_blank t more (tag {c = c} {rest = rest} bytes few) =
    ap (λ b. b && all is_space (rest ++ more)) (byte_no_space c ((and_parts (is_tag_byte c) (all is_tag_byte rest) bytes).0))

-- the front of a line by its bytes is a tag
pub front_is_tag : (piece : List ℕ) (n : ℕ) → n ≤ length piece → all is_tag_byte (take n piece) ≡ true → (n ≡ 0 → ⊥) → n ≤ 16 → IsTag (take n piece)
front_is_tag piece n within bytes some few = by_list (take n piece) (length-take-le n piece within) bytes
  where
    by_list : (xs : List ℕ) → length xs ≡ n → all is_tag_byte xs ≡ true → IsTag xs
    by_list [] e h = absurd (some (sym e))
    by_list (c ∷ xs) e h = tag h (omega (arith, e, few))

-- ---- the answers to lines and to lines after them

answers_joined : (f : Formula) (seen a b : List Tagged) (text more : List ℕ) → AreAnswers f seen a text → AreAnswers f (seen ++ a) b more
    → AreAnswers f seen (a ++ b) (text ++ more)
answers_joined f seen [] b text more e k =
    subst (λ t. AreAnswers f seen b t) (ap (λ t. t ++ more) (sym e)) (subst (λ s. AreAnswers f s b more) (append-nil seen) k)
answers_joined f seen (x ∷ a) b text more (here, later, is, on, e) k = (
  here,
  later ++ more,
  is,
  answers_joined f (seen ++ x ∷ []) a b later more on (subst (λ s. AreAnswers f s b more) (sym (append_assoc seen (x ∷ []) a)) k),
  ap (λ t. t ++ more) e ∙ append_assoc here later more,
)

-- ---- lines of one session

abbrev pub lines_of_run : List RunLine → List Line
lines_of_run ls = map (λ (l : RunLine). ended_line l.bytes) ls

-- the lines of the bytes of a run, and of what follows
pub run_lines : (ls : List RunLine) (t : List ℕ) → All (IsRunLine t) ls → (e : Bool) (more : List ℕ)
    → lines e (bytes_of ls ++ more) ≡ lines_of_run ls ++ lines e more
run_lines [] t each e more = refl
run_lines (l ∷ ls) t each e more =
    ap (lines e) (append_assoc (l.bytes ++ newline) (bytes_of ls) more ∙ append_assoc l.bytes newline (bytes_of ls ++ more))
    ∙ lines-append e l.bytes (bytes_of ls ++ more)
    ∙ ap (λ k. k ++ lines e (bytes_of ls ++ more)) (lines-line l.bytes (All-head (IsRunLine t) l ls each).free)
    ∙ ap (λ k. ended_line l.bytes ∷ k) (run_lines ls t (All-tail (IsRunLine t) l ls each) e more)

run_length : (ls : List RunLine) → length (lines_of_run ls) ≡ length ls
run_length [] = refl
run_length (l ∷ ls) = ap suc (run_length ls)

-- the bytes are no more than those of the longest lines
run_small : (ls : List RunLine) (t : List ℕ) → All (IsRunLine t) ls → length (bytes_of ls) ≤ 4114 * length ls
run_small [] t each = omega arith
run_small (l ∷ ls) t each =
    let short = (All-head (IsRunLine t) l ls each).short in
    let rest = run_small ls t (All-tail (IsRunLine t) l ls each) in
    omega (arith, short, rest, length-append (l.bytes ++ newline) (bytes_of ls), length-append l.bytes newline)

run_tagged : (t : List ℕ) (l : RunLine) → IsTag t → IsRunLine t l → IsTagged (content_of (ended_line l.bytes)) (record { tag = t; content = l.content })
run_tagged t l is line = subst (λ c. IsTagged c (record { tag = t; content = l.content })) (sym line.is) (followed l.content is)

run_not_blank : (t : List ℕ) (l : RunLine) → IsTag t → IsRunLine t l → is_blank_line (ended_line l.bytes) ≡ false
run_not_blank t l is line = ap (all is_space) line.is ∙ tag_not_blank t (32 ∷ l.content) is

-- lines of a known tag
passed_known : (ls : List RunLine) (t : List ℕ) (known : List (List ℕ)) (n : ℕ) → IsTag t → All (IsRunLine t) ls → is_among t known ≡ true
    → n + length ls ≤ 8589934593 → ArePassed n known (lines_of_run ls) (tagged_of t ls) known
passed_known [] t known n is each among few = none
passed_known (l ∷ ls) t known n is each among few =
    let line = All-head (IsRunLine t) l ls each in
    old_tag (omega (arith, few), line.short) refl (run_not_blank t l is line) (run_tagged t l is line) among
    (passed_known ls t known (suc n) is (All-tail (IsRunLine t) l ls each) among (omega (arith, few)))

-- lines of one tag, the first of which may be a new one
passed_run : (l : RunLine) (ls : List RunLine) (t : List ℕ) (known : List (List ℕ)) (n : ℕ) → IsTag t → All (IsRunLine t) (l ∷ ls)
    → (is_among t known ≡ false → length known < 1024) → n + length (l ∷ ls) ≤ 8589934593
    → (after : List (List ℕ)) × ArePassed n known (lines_of_run (l ∷ ls)) (tagged_of t (l ∷ ls)) after
passed_run l ls t known n is each room few = by_test (is_among t known) refl
  where
    by_test : (b : Bool) → is_among t known ≡ b → (after : List (List ℕ)) × ArePassed n known (lines_of_run (l ∷ ls)) (tagged_of t (l ∷ ls)) after
    by_test true e = (known, passed_known (l ∷ ls) t known n is each e few)
    by_test false e =
        let line = All-head (IsRunLine t) l ls each in
        let among : is_among t (t ∷ known) ≡ true = ap (λ b. b || is_among t known) ((bytes_eq-Decides t t).1 refl) in (
          t ∷ known,
          new_tag (omega (arith, few), line.short) refl (run_not_blank t l is line) (run_tagged t l is line) e (room e)
              (passed_known ls t (t ∷ known) (suc n) is (All-tail (IsRunLine t) l ls each) among (omega (arith, few))),
        )

-- ---- what the sessions stand for

module _ (f : Formula) (seen : List Tagged) (t : List ℕ) (l : RunLine) (ls : List RunLine) (each : All (IsRunLine t) (l ∷ ls))
    (c : List ℕ) (e : contents_of (l ∷ ls) ≡ c ++ newline) where
  abbrev one : Tagged
  one = record { tag = t; content = c }

  each_as_one : (sessions : List Session) → EachHasSaid f (seen ++ one ∷ []) sessions → EachHasSaid f (seen ++ tagged_of t (l ∷ ls)) sessions
  each_as_one sessions said i s at =
      let h = said i s at in
      (h.0, (h.1.0, subst (λ (o : Own). HasSaidSoFar f o h.1.0 s) (run_as_one t l ls each c e seen s.tag) h.1.1))

  -- the lines as one, or one by one
  stands_as_one : (m : Muxed) → StandsFor (record { formula = f; seen = seen ++ one ∷ [] }) m
      → StandsFor (record { formula = f; seen = seen ++ tagged_of t (l ∷ ls) }) m
  stands_as_one m h = record {
    phase = h.phase;
    knows = record {
      formula = h.knows.formula;
      tags = h.knows.tags ∙ tags_as_one t seen c l ls;
      said = each_as_one m.known.sessions h.knows.said;
      found = h.knows.found;
    };
  }

-- a run, of the bytes of a line that went on and of n bytes of a piece, was taken by its session: so were all its lines
module _ (f : Formula) (i : Input) (bytes written piece : List ℕ) (k : IsTaking f i bytes written) (t : List ℕ) (is_tag : IsTag t) (n : ℕ)
    (l : RunLine) (ls : List RunLine) (each : All (IsRunLine t) (l ∷ ls)) (taken : i.part ++ take n piece ≡ bytes_of (l ∷ ls))
    (few : i.whole + length (l ∷ ls) ≤ 8589934592) (c : List ℕ) (e : contents_of (l ∷ ls) ≡ c ++ newline) where
  abbrev past : Past
  past = record { formula = f; seen = k.taken.tagged }

  abbrev all_lines : List RunLine
  all_lines = l ∷ ls

  joins_run : (more : List ℕ) (b : Bool) → lines b ((bytes ++ take n piece) ++ more) ≡ (k.front ++ lines_of_run all_lines) ++ lines b more
  joins_run more b =
      ap (lines b) (append_assoc bytes (take n piece) more) ∙ k.joins b (take n piece ++ more)
      ∙ ap (λ p. k.front ++ lines b p) (sym (append_assoc i.part (take n piece) more) ∙ ap (λ p. p ++ more) taken)
      ∙ ap (λ z. k.front ++ z) (run_lines all_lines t each b more)
      ∙ sym (append_assoc k.front (lines_of_run all_lines) (lines b more))

  room_for : IsRoomFor k.taken.tagged (one f k.taken.tagged t l ls each c e) → is_among t k.taken.after ≡ false → length k.taken.after < 1024
  room_for (inl among) a = absurd (false≢true (sym a ∙ known_tag t k.taken.passed ∙ among))
  room_for (inr room) a = let z = known_count k.taken.passed in omega (arith, z, room)

  run_has_lines : (mux : Muxed) (after : List ℕ) → HasTaken past (record { tag = t; content = c }) mux i.text after
      → HasLines f mux (k.front ++ lines_of_run all_lines) (written ++ after)
  run_has_lines mux after h =
      let count = k.count in
      let (tags, passed) = passed_run l ls t k.taken.after (1 + length k.front) is_tag each (room_for h.room) (omega (arith, count, few)) in
      record {
        tagged = k.taken.tagged ++ tagged_of t all_lines;
        after = tags;
        passed = passed_on k.taken.passed passed;
        stands = stands_as_one f k.taken.tagged t l ls each c e mux h.stands;
        said = subst (λ w. AreAnswers f [] (k.taken.tagged ++ tagged_of t all_lines) w)
            (append_assoc written i.text h.answer ∙ ap (λ w. written ++ w) (sym h.added))
            (answers_joined f [] k.taken.tagged (tagged_of t all_lines) (written ++ i.text) h.answer k.taken.said
            (run_answers t f k.taken.tagged l ls c h.answer each e h.is));
      }

  -- all its lines were taken
  pub run_taken : (new : Input) → new.part ≡ [] → new.whole ≡ i.whole + length all_lines
      → HasTaken past (record { tag = t; content = c }) new.mux i.text new.text → IsTaking f new (bytes ++ take n piece) written
  run_taken new none_left next h = record {
    front = k.front ++ lines_of_run all_lines;
    free = subst (λ b. HasNoFeed b) (sym none_left) (All-nil (λ d. d ≡ 10 → ⊥));
    joins = λ b more. joins_run more b ∙ ap (λ p. (k.front ++ lines_of_run all_lines) ++ lines b (p ++ more)) (sym none_left);
    count = (let z = k.count in omega (arith, z, next, length-append k.front (lines_of_run all_lines), run_length all_lines));
    few = omega (arith, next, few);
    part_few = λ some. absurd (let z : length new.part ≡ 0 = ap length none_left in omega (arith, z, some));
    short = (let z : length new.part ≡ 0 = ap length none_left in omega (arith, z));
    small = (let a = k.small in let z : length new.part ≡ 0 = ap length none_left in
        omega (arith, a, z, next, length-append bytes (take n piece), length-append i.part (take n piece), ap length taken, run_small all_lines t each));
    taken = run_has_lines new.mux new.text h;
  }

  -- its first line has a new tag, and there are 1,024
  pub run_refused : (after : List ℕ) (stop : InputStop) → IsRunRefused past (i.whole + 1) t i.text after stop
      → IsInputStop f (bytes ++ piece) false (written ++ after) stop
  run_refused after (Faulty x) (at, kind_is, new_one, full, same) =
      let later = drop n piece in
      let count = k.count in
      let split : lines false (bytes ++ piece) ≡ k.front ++ (ended_line l.bytes ∷ (lines_of_run ls ++ lines false later)) =
      ap (lines false) (ap (λ p. bytes ++ p) (sym (take-append-drop n piece)) ∙ sym (append_assoc bytes (take n piece) later))
      ∙ joins_run later false ∙ append_assoc k.front (lines_of_run all_lines) (lines false later) in
      let line = All-head (IsRunLine t) l ls each in
      let sized : IsSized (1 + length k.front) (length l.bytes) = (omega (arith, count, few), line.short) in
      let place : i.whole + 1 ≡ 1 + length k.front = omega (arith, count) in
      subst (λ w. IsInputStop f (bytes ++ piece) false (written ++ w) (Faulty x)) (sym same)
      (stored_there (ended_line l.bytes ∷ (lines_of_run ls ++ lines false later)) (bytes ++ piece) false k.taken x (at ∙ place) split
      (refused_fault l.bytes (lines_of_run ls ++ lines false later) k.taken x.kind sized (run_not_blank t l is_tag line)
      (subst (λ (z : LineKind). IsRefusedOf z) (sym kind_is) ((record { tag = t; content = l.content }, run_tagged t l is_tag line, new_one), full))))
    where
      IsRefusedOf : LineKind → Type 0
      IsRefusedOf z = IsRefusedBy past l.bytes z
  run_refused after NoMemory r = tt

-- ---- what was gathered

-- nothing yet
pub gathered_none : (t piece : List ℕ) (most : ℕ) (contents : List ℕ) → contents ≡ [] → HasGathered t piece most 0 0 contents
gathered_none t piece most contents e = record {
  lines = [];
  each = All-nil (IsRunLine t);
  taken = refl;
  within = omega arith;
  are = refl;
  few = omega arith;
  contents_are = e;
}

-- the first line of what is left stands within the piece
pub own_within : (t piece content : List ℕ) (n m : ℕ) → n ≤ length piece → IsOwnLine t (take (length piece - n) (drop n piece)) content m
    → n + m ≤ length piece
own_within t piece content n m within own =
    let bound : m ≤ length (drop n piece) = subst (λ p. m ≤ length p) (take_rest piece n) own.within in
    omega (arith, bound, within, length-drop n piece)

-- one line more
pub gathered_on : {t piece : List ℕ} {most n count : ℕ} {old mid new content : List ℕ} {m : ℕ} → HasGathered t piece most n count old → count < most
    → IsOwnLine t (take (length piece - n) (drop n piece)) content m → mid ≡ old ++ content → new ≡ mid ++ newline
    → HasGathered t piece most (n + m) (count + 1) new
gathered_on {t} {piece} {n = n} {content = content} {m = m} g less own with_content with_feed =
    let l : RunLine = record { bytes = own.bytes; content = content } in
    let here : take m (drop n piece) ≡ own.bytes ++ newline = ap (take m) (sym (take_rest piece n)) ∙ own.taken in
    record {
      lines = g.lines ++ l ∷ [];
      each = All-append (IsRunLine t) g.lines (l ∷ []) g.each (All-cons (IsRunLine t) l [] own.is (All-nil (IsRunLine t)));
      taken = take-add n m piece ∙ ap (λ b. b ++ take m (drop n piece)) g.taken
          ∙ ap (λ b. bytes_of g.lines ++ b) (here ∙ sym (append-nil (own.bytes ++ newline)))
          ∙ sym (flat_map-append (λ (k : RunLine). k.bytes ++ newline) g.lines (l ∷ []));
      within = own_within t piece content n m g.within own;
      are = (let a = g.are in omega (arith, a, length_push g.lines l));
      few = omega (arith, less);
      contents_are = with_feed ∙ ap (λ w. w ++ newline) (with_content ∙ ap (λ w. w ++ content) g.contents_are)
          ∙ append_assoc (contents_of g.lines) content newline
          ∙ ap (λ w. contents_of g.lines ++ w) (sym (append-nil (content ++ newline)))
          ∙ sym (flat_map-append (λ (k : RunLine). k.content ++ newline) g.lines (l ∷ []));
    }

-- one line alone
pub gathered_one : {t piece content contents : List ℕ} {most m : ℕ} → 0 < most → IsOwnLine t piece content m → contents ≡ content ++ newline
    → HasGathered t piece most m 1 contents
gathered_one {t} {content = content} some own ends =
    let l : RunLine = record { bytes = own.bytes; content = content } in
    record {
      lines = l ∷ [];
      each = All-cons (IsRunLine t) l [] own.is (All-nil (IsRunLine t));
      taken = own.taken ∙ sym (append-nil (own.bytes ++ newline));
      within = own.within;
      are = refl;
      few = omega (arith, some);
      contents_are = ends ∙ sym (append-nil (content ++ newline));
    }

-- a tag has no LF
tag_free : (t : List ℕ) → IsTag t → HasNoFeed t
tag_free t (tag {c = c} {rest = rest} bytes few) = bytes_free (c ∷ rest) bytes
  where
    byte_no_feed : (d : ℕ) → is_tag_byte d ≡ true → d ≢ 10
    byte_no_feed d is e = absurd (false≢true (subst (λ x. is_tag_byte x ≡ true) e is))

    bytes_free : (xs : List ℕ) → all is_tag_byte xs ≡ true → HasNoFeed xs
    bytes_free [] h = All-nil (λ d. d ≢ 10)
    bytes_free (x ∷ xs) h =
        let both = and_parts (is_tag_byte x) (all is_tag_byte xs) h in All-cons (λ d. d ≢ 10) x xs (byte_no_feed x both.0) (bytes_free xs both.1)

-- nor has it with a space behind it
pub prefix_free : (t : List ℕ) → IsTag t → HasNoFeed (t ++ 32 ∷ [])
prefix_free t is = All-append (λ d. d ≢ 10) t (32 ∷ []) (tag_free t is) (All-cons (λ d. d ≢ 10) 32 [] (λ z. omega (arith, z)) (All-nil (λ d. d ≢ 10)))

-- a list is empty, or has a last item
snoc : (ys : List ℕ) → (ys ≡ []) ⊎ ((w : List ℕ) × (c : ℕ) × (ys ≡ w ++ c ∷ []))
snoc [] = inl refl
snoc (y ∷ ys) = elim (snoc ys) [
  | inl e ↦ inr ([], y, ap (λ z. y ∷ z) e)
  | inr h ↦ inr (y ∷ h.0, h.1, ap (λ z. y ∷ z) h.2)
]

-- the content of a line that ends in this byte
content_at : (w : List ℕ) (c : ℕ) → content_of (ended_line (w ++ c ∷ [])) ≡ (if c == 13 then w else w ++ c ∷ [])
content_at w c = by_test (c == 13) refl
  where
    by_test : (b : Bool) → (c == 13) ≡ b → content_of (ended_line (w ++ c ∷ [])) ≡ (if b then w else w ++ c ∷ [])
    by_test true e = rw (reverse-append w (c ∷ []), e) (reverse-reverse w)
    by_test false e = rw (reverse-append w (c ∷ []), e) (reverse-append (c ∷ []) (reverse w) ∙ ap (λ v. v ++ c ∷ []) (reverse-reverse w))

-- the content of what follows some bytes and a space follows them too
content_behind : (xs ys : List ℕ) → content_of (ended_line (xs ++ 32 ∷ ys)) ≡ xs ++ 32 ∷ content_of (ended_line ys)
content_behind xs ys = by_end (snoc ys)
  where
    by_end : (ys ≡ []) ⊎ ((w : List ℕ) × (c : ℕ) × (ys ≡ w ++ c ∷ [])) → content_of (ended_line (xs ++ 32 ∷ ys)) ≡ xs ++ 32 ∷ content_of (ended_line ys)
    by_end (inl e) = subst (λ zs. content_of (ended_line (xs ++ 32 ∷ zs)) ≡ xs ++ 32 ∷ content_of (ended_line zs)) (sym e) (content_at xs 32)
    by_end (inr (w, c, e)) =
        subst (λ zs. content_of (ended_line (xs ++ 32 ∷ zs)) ≡ xs ++ 32 ∷ content_of (ended_line zs)) (sym e)
        (ap (λ zs. content_of (ended_line zs)) (sym (append_assoc xs (32 ∷ w) (c ∷ []))) ∙ content_at (xs ++ 32 ∷ w) c ∙ by_test (c == 13)
        ∙ ap (λ zs. xs ++ 32 ∷ zs) (sym (content_at w c)))
      where
        by_test : (b : Bool) → (if b then xs ++ 32 ∷ w else (xs ++ 32 ∷ w) ++ c ∷ []) ≡ xs ++ 32 ∷ (if b then w else w ++ c ∷ [])
        by_test true = refl
        by_test false = append_assoc xs (32 ∷ w) (c ∷ [])

-- the line at the front of a piece, by what follows its tag and a space
pub own_front : (t piece rest content : List ℕ) (at end : ℕ) → IsTag t → piece ≡ t ++ 32 ∷ rest
    → NoneBefore (Passes (is_byte 10) rest) 0 (length rest) at → Passes (is_byte 10) rest at
    → end ≡ length piece - length rest + at → end ≤ 4113 → content ≡ content_of (ended_line (take at rest)) → asks content ≡ false → stops content ≡ false
    → IsOwnLine t piece content (end + 1)
own_front t piece rest content at end is split h feed e few k no_query no_stop =
    let bytes : List ℕ = t ++ 32 ∷ take at rest in
    let front : List ℕ = t ++ 32 ∷ [] in
    let front_all : take (length front) front ≡ front = take_all (length front) front (omega arith) in
    let front_is : piece ≡ take (length front) front ++ rest =
    split ∙ sym (append_assoc t (32 ∷ []) rest) ∙ ap (λ w. w ++ rest) (sym front_all) in
    let n : length piece - length rest ≡ length t + 1 = omega (arith, ap length split, length-append t (32 ∷ rest)) in
    let some : at < length rest = h.high in
    record {
      bytes = bytes;
      is = record {
        free = All-append (λ d. d ≢ 10) t (32 ∷ take at rest) (tag_free t is)
            (All-cons (λ d. d ≢ 10) 32 (take at rest) (λ z. omega (arith, z)) (at-free rest at h feed));
        short = omega (arith, few, e, n, length-append t (32 ∷ take at rest), length-take-le at rest (omega (arith, some)));
        is = content_behind t (take at rest) ∙ ap (λ w. t ++ 32 ∷ w) (sym k);
        no_query = no_query;
        no_stop = no_stop;
      };
      taken = ap (take (end + 1)) front_is ∙ ap (λ m. take m (take (length front) front ++ rest)) (omega (arith, e, n, length-append t (32 ∷ [])))
          ∙ take_past (length front) (at + 1) front rest (omega arith) ∙ ap (λ w. w ++ take (at + 1) rest) front_all
          ∙ ap (λ w. front ++ w) (at-taken rest at h feed) ∙ sym (append_assoc front (take at rest) newline)
          ∙ ap (λ w. w ++ newline) (append_assoc t (32 ∷ []) (take at rest));
      within = omega (arith, e, n, some, ap length split, length-append t (32 ∷ rest));
      some = omega arith;
    }

-- contents without their last LF
pub without_feed : (contents c : List ℕ) → contents ≡ c ++ newline → take (length contents - 1) contents ≡ c
without_feed contents c e =
    let n : length contents - 1 ≡ length c = omega (arith, ap length e, length-append c newline) in
    ap (λ w. take (length contents - 1) w) e ∙ ap (λ k. take k (c ++ newline)) n ∙ take-append_seam c newline

-- a run was handed on: its session took it
pub run_handed : (p : Past) (t c : List ℕ) (old new : Muxed) (before after : List ℕ) → IsTag t
    → IsLineCall p (t ++ 32 ∷ c) old new before after (Ok tt) → HasTaken p (record { tag = t; content = c }) new before after
run_handed p t c old new before after is call =
    let (x, tagged, h) = at_false ((new ≡ old) × (after ≡ before)) (IsTakenLine p (t ++ 32 ∷ c) new before after)
    (all is_space (t ++ 32 ∷ c)) (tag_not_blank t (32 ∷ c) is) call in
    subst (λ (y : Tagged). HasTaken p y new before after) (tagged_once (t ++ 32 ∷ c) x (record { tag = t; content = c }) tagged (followed c is)) h

-- or it has a new tag, and there are 1,024
pub run_turned_away : (p : Past) (t c : List ℕ) (old new : Muxed) (before after : List ℕ) (n : ℕ) → IsTag t
    → IsLineCall p (t ++ 32 ∷ c) old new before after (Err fault.TooManySessions)
    → IsRunRefused p n t before after (Faulty (record { line = n; kind = kind.TooManySessions }))
run_turned_away p t c old new before after n is (blank, (x, tagged, other), full, same, nothing) =
    let one : x.tag ≡ t = ap (λ (y : Tagged). y.tag) (tagged_once (t ++ 32 ∷ c) x (record { tag = t; content = c }) tagged (followed c is)) in
    (refl, refl, subst (λ w. is_among w (tags_of p.seen) ≡ false) one other, full, nothing)

-- ---- a run in its input

-- some lines have contents
pub gathered_some : (t piece : List ℕ) (most n count : ℕ) (contents : List ℕ) → HasGathered t piece most n count contents → (count ≡ 0 → ⊥)
    → IsWithFeed contents
gathered_some t piece most n count contents g some = by_lines g.lines g.are g.contents_are
  where
    by_lines : (ls : List RunLine) → count ≡ length ls → contents ≡ contents_of ls → IsWithFeed contents
    by_lines [] e k = absurd (some e)
    by_lines (l ∷ ls) e k = let (c, ends) = contents_end l ls in (c, k ∙ ends)

-- bytes with an LF go beyond the front that has none
pub part_within : (part piece first more : List ℕ) (n : ℕ) → HasNoFeed part → take n (part ++ piece) ≡ (first ++ newline) ++ more → length part < n
part_within part piece first more n free taken = elim (cases_lt (length part) n) [
  | inl less ↦ less
  | inr far ↦
      let front : take n part ≡ first ++ (newline ++ more) =
      sym (take-append-le n part piece (omega (arith, far))) ∙ taken ∙ append_assoc first newline more in
      let feed : get_or (take n part) (length first + 0) 0 ≡ 10 =
      ap (λ w. get_or w (length first + 0) 0) front ∙ get_or-append-add first (newline ++ more) 0 0 in
      let inside : length first + 0 < length (take n part) = omega (arith, ap length front, length-append first (newline ++ more)) in
      absurd (All-get_or (λ d. d ≢ 10) (take n part) (length first + 0) 0 inside (All-take (λ d. d ≢ 10) n part free) feed)
]

module _ (f : Formula) (i : Input) (bytes written piece : List ℕ) (k : IsTaking f i bytes written) (t : List ℕ) (is_tag : IsTag t) (n count : ℕ)
    (contents : List ℕ) (g : HasGathered t (i.part ++ piece) (8589934592 - i.whole) n count contents) (some : count ≡ 0 → ⊥) where
  abbrev front_past : Past
  front_past = record { formula = f; seen = k.taken.tagged }

  -- what was gathered has more bytes than the line that went on
  pub run_beyond : length i.part < n
  run_beyond = by_lines g.lines g.are g.taken
    where
      by_lines : (ls : List RunLine) → count ≡ length ls → take n (i.part ++ piece) ≡ bytes_of ls → length i.part < n
      by_lines [] are taken = absurd (some are)
      by_lines (l ∷ ls) are taken = part_within i.part piece l.bytes (bytes_of ls) n k.free taken

  -- the others are of the piece
  of_piece : (ls : List RunLine) → take n (i.part ++ piece) ≡ bytes_of ls → i.part ++ take (n - length i.part) piece ≡ bytes_of ls
  of_piece ls taken = sym (take_beyond i.part piece n (n - length i.part) (omega (arith, run_beyond))) ∙ taken

  -- and no more than it has
  pub run_within : n - length i.part ≤ length piece
  run_within = let within = g.within in omega (arith, within, length-append i.part piece)

  -- its session took what was gathered
  pub run_done : (new : Input) → new.part ≡ [] → new.whole ≡ i.whole + count
      → ((c : List ℕ) → contents ≡ c ++ newline → HasTaken front_past (record { tag = t; content = c }) new.mux i.text new.text)
      → IsTaking f new (bytes ++ take (n - length i.part) piece) written
  run_done new none_left next h = by_lines g.lines g.each g.taken g.are g.contents_are
    where
      by_lines : (ls : List RunLine) → All (IsRunLine t) ls → take n (i.part ++ piece) ≡ bytes_of ls → count ≡ length ls → contents ≡ contents_of ls
          → IsTaking f new (bytes ++ take (n - length i.part) piece) written
      by_lines [] each taken are e = absurd (some are)
      by_lines (l ∷ ls) each taken are e =
          let (c, ends) = contents_end l ls in
          let few = g.few in
          let low = k.few in
          run_taken f i bytes written piece k t is_tag (n - length i.part) l ls each (of_piece (l ∷ ls) taken) (omega (arith, are, few, low)) c ends
          new none_left (omega (arith, next, are)) (h c (e ∙ ends))

  -- or refused it
  pub run_stopped : (after : List ℕ) (stop : InputStop)
      → ((c : List ℕ) → contents ≡ c ++ newline → IsRunRefused front_past (i.whole + 1) t i.text after stop)
      → IsInputStop f (bytes ++ piece) false (written ++ after) stop
  run_stopped after stop h = by_lines g.lines g.each g.taken g.are g.contents_are
    where
      by_lines : (ls : List RunLine) → All (IsRunLine t) ls → take n (i.part ++ piece) ≡ bytes_of ls → count ≡ length ls → contents ≡ contents_of ls
          → IsInputStop f (bytes ++ piece) false (written ++ after) stop
      by_lines [] each taken are e = absurd (some are)
      by_lines (l ∷ ls) each taken are e =
          let (c, ends) = contents_end l ls in
          let few = g.few in
          let low = k.few in
          run_refused f i bytes written piece k t is_tag (n - length i.part) l ls each (of_piece (l ∷ ls) taken) (omega (arith, are, few, low)) c ends
          after stop (h c (e ∙ ends))

-- no bytes were taken
pub nothing_taken : (f : Formula) (i : Input) (bytes written piece : List ℕ) (n : ℕ) → n ≤ 0 → IsTaking f i (bytes ++ take n piece) written
    → IsTaking f i bytes written
nothing_taken f i bytes written piece n low k =
    let zero_bytes : n ≡ 0 = omega (arith, low) in
    subst (λ b. IsTaking f i b written) (ap (λ m. bytes ++ take m piece) zero_bytes ∙ append-nil bytes) k
