-- The last lines of a text.
use Rattle.std.proofs.Common.{◌≡◌, ◌≢◌, ◌⊎◌, inl, inr, refl, sym, ap, subst, ◌∙◌, ℕ, zero, suc, ◌+◌, ◌-◌, ◌<◌, ◌≤◌, true, List, [], ◌∷◌, ◌++◌}
use Rattle.std.proofs.Common.{length, take, drop, append_assoc, length-append, length-drop, get_or, arith}
use Rattle.std.specs.Prelude.{map}
use Rattle.std.proofs.lemmas.Bool.{cases_eq, eqb-true}
use Rattle.std.proofs.lemmas.List.{append-nil, append_cancel_left, take-append-drop, length-take-le, take-take, take_more, drop-append-le, drop_all, take_all}
use Rattle.std.proofs.lemmas.List.Elements.{All-nil, All-cons, All-append}
use Rattle.circular_buffer.specs.Buffer.{keep_last}
use Rattle.memchr.specs.Find.{is_byte, Nowhere, NoneAfter, Passes}
use Rattle.stl_syntax.specs.Texts.{newline}
use Rattle.trace_reader.specs.Feeds.{HasNoFeed}
use Rattle.trace_reader.specs.TraceText.{Line}
use Rattle.trace_reader.proofs.FeedLemmas.{none-free}
use Rattle.trace_reader.proofs.LineLemmas.{rest, lines-nil, lines-rest}
use Rattle.session_mux.specs.Saying.{texts, EndsInFeed, HasLastLines}
use Rattle.session_mux.proofs.TextLemmas.{one_line, texts_joined}

-- behind the last LF there is none
after_free : (xs : List ℕ) (j : ℕ) → Nowhere (Passes (is_byte 10) xs) j (length xs) → HasNoFeed (drop j xs)
after_free xs zero none = none-free xs none
after_free [] (suc j) none = All-nil (λ c. c ≢ 10)
after_free (x ∷ xs) (suc j) none = after_free xs j (λ k low less is. none (suc k) (omega (arith, low)) (omega (arith, less)) is)

-- bytes without an LF, and one byte more, are one line
one_text : (w : List ℕ) (c : ℕ) → HasNoFeed w → (line : List ℕ) × (texts (w ++ c ∷ []) ≡ line ∷ [])
one_text w c free = by_test (cases_eq c 10)
  where
    alone : (xs : List ℕ) → (line : List ℕ) × (map (λ (l : Line). l.bytes) (rest true (xs ++ c ∷ [])) ≡ line ∷ [])
    alone [] = (c ∷ [], refl)
    alone (x ∷ xs) = (x ∷ (xs ++ c ∷ []), refl)

    by_test : (c ≡ 10) ⊎ (c ≡ 10 → ⊥) → (line : List ℕ) × (texts (w ++ c ∷ []) ≡ line ∷ [])
    by_test (inl e) = (w, ap (λ d. texts (w ++ d ∷ [])) e ∙ ap (λ ls. map (λ (l : Line). l.bytes) ls) (one_line w free))
    by_test (inr ne) =
        let all : HasNoFeed (w ++ c ∷ []) = All-append (λ d. d ≢ 10) w (c ∷ []) free (All-cons (λ d. d ≢ 10) c [] ne (All-nil (λ d. d ≢ 10))) in
        let (line, e) = alone w in
        (line, ap (λ ls. map (λ (l : Line). l.bytes) ls) (lines-rest true (w ++ c ∷ []) all) ∙ e)

one_of : (z : List ℕ) → length z ≡ 1 → (c : ℕ) × (z ≡ c ∷ [])
one_of [] n = absurd (omega (arith, n))
one_of (c ∷ []) n = (c, refl)
one_of (c ∷ d ∷ z) n = absurd (omega (arith, n))

module _ (text : List ℕ) (some : 0 < length text) where
  abbrev but_one : List ℕ
  but_one = take (length text - 1) text

  last_byte : (c : ℕ) × (text ≡ but_one ++ c ∷ [])
  last_byte =
      let (c, e) = one_of (drop (length text - 1) text) (omega (arith, some, length-drop (length text - 1) text)) in
      (c, sym (take-append-drop (length text - 1) text) ∙ ap (λ z. but_one ++ z) e)

  -- where there is an LF before the last byte, the last line begins behind it
  module _ (at : ℕ) (h : NoneAfter (Passes (is_byte 10) but_one) 0 (length but_one) at) (is : Passes (is_byte 10) but_one at) where
    front_is : take (at + 1) text ≡ take at but_one ++ newline
    front_is =
        sym (take-take (at + 1) (length text - 1) text (omega (arith, h.high, length-take-le (length text - 1) text (omega arith))))
        ∙ take_more but_one at 0 h.high ∙ ap (λ c. take at but_one ++ c ∷ []) (eqb-true (get_or but_one at 0) 10 is)

    pub behind_ends : EndsInFeed (take (at + 1) text)
    behind_ends = inr (take at but_one, front_is)

    pub behind_line : (line : List ℕ) × (texts text ≡ texts (take (at + 1) text) ++ line ∷ [])
    behind_line =
        let (c, e) = last_byte in
        let (line, one) = one_text (drop (at + 1) but_one) c (after_free but_one (at + 1) h.after) in
        let few : at + 1 ≤ length text - 1 = omega (arith, h.high, length-take-le (length text - 1) text (omega arith)) in
        let split : text ≡ take (at + 1) text ++ (drop (at + 1) but_one ++ c ∷ []) =
        e ∙ ap (λ w. w ++ c ∷ []) (sym (take-append-drop (at + 1) but_one)) ∙ append_assoc (take (at + 1) but_one) (drop (at + 1) but_one) (c ∷ [])
        ∙ ap (λ w. w ++ (drop (at + 1) but_one ++ c ∷ [])) (take-take (at + 1) (length text - 1) text few) in (
          line,
          ap texts split ∙ texts_joined (take (at + 1) text) (drop (at + 1) but_one ++ c ∷ []) behind_ends ∙ ap (λ ts. texts (take (at + 1) text) ++ ts) one,
        )

  -- else the text is one line
  pub whole_line : Nowhere (Passes (is_byte 10) but_one) 0 (length but_one) → (line : List ℕ) × (texts text ≡ texts (take 0 text) ++ line ∷ [])
  whole_line none =
      let (c, e) = last_byte in
      let (line, one) = one_text but_one c (none-free but_one none) in
      (line, ap texts e ∙ one ∙ ap (λ ls. map (λ (l : Line). l.bytes) ls ++ line ∷ []) (sym (lines-nil true)))

-- ---- the last eight

-- a text is cut before so many of its last lines
pub record AreLast (text : List ℕ) (from count : ℕ) : Type 0 where
  pub within : from ≤ length text
  pub split : texts text ≡ texts (take from text) ++ texts (drop from text)
  pub count_is : length (texts (drop from text)) ≡ count

-- before none
pub last_none : (text : List ℕ) → AreLast text (length text) 0
last_none text =
    let none : texts (drop (length text) text) ≡ [] =
    ap texts (drop_all (length text) text (omega arith)) ∙ ap (λ ls. map (λ (l : Line). l.bytes) ls) (lines-nil true) in
    record {
      within = omega arith;
      split = sym (ap (λ ts. texts (take (length text) text) ++ ts) none ∙ append-nil (texts (take (length text) text))
          ∙ ap texts (take_all (length text) text (omega arith)));
      count_is = ap length none;
    }

-- before one more
pub last_more : (text : List ℕ) (from count n : ℕ) → AreLast text from count → n < length (take from text) → EndsInFeed (take n (take from text))
    → (line : List ℕ) × (texts (take from text) ≡ texts (take n (take from text)) ++ line ∷ []) → AreLast text n (count + 1)
last_more text from count n a less ends (line, e) =
    let short : n < from = omega (arith, less, length-take-le from text a.within) in
    let front : take n (take from text) ≡ take n text = take-take n from text (omega (arith, short)) in
    let joined : texts text ≡ texts (take n text) ++ texts (drop n text) =
    ap texts (sym (take-append-drop n text)) ∙ texts_joined (take n text) (drop n text) (subst (λ w. EndsInFeed w) front ends) in
    let more : texts (drop n text) ≡ line ∷ texts (drop from text) =
    append_cancel_left (texts (take n text)) (texts (drop n text)) (line ∷ texts (drop from text))
    (sym joined ∙ a.split ∙ ap (λ ts. ts ++ texts (drop from text)) (e ∙ ap (λ w. texts w ++ line ∷ []) front)
    ∙ append_assoc (texts (take n text)) (line ∷ []) (texts (drop from text))) in
    record {
      within = omega (arith, short, a.within);
      split = joined;
      count_is = (let k = a.count_is in omega (arith, k, ap length more));
    }

last_part : {X : Type 0} (xs ys : List X) → length ys ≡ 8 → keep_last 8 (xs ++ ys) ≡ ys
last_part xs ys n = ap (λ m. drop m (xs ++ ys)) (omega (arith, n, length-append xs ys)) ∙ drop-append-le (length xs) xs ys (omega arith)
    ∙ ap (λ w. w ++ ys) (drop_all (length xs) xs (omega arith))

-- eight of them are the last eight of all
pub last_eight_are : (text : List ℕ) (from : ℕ) → AreLast text from 8 → HasLastLines text (drop from text)
last_eight_are text from a = λ said.
    let ls = texts (drop from text) in
    ap (λ ts. keep_last 8 (said ++ ts)) a.split ∙ ap (keep_last 8) (sym (append_assoc said (texts (take from text)) ls))
    ∙ last_part (said ++ texts (take from text)) ls a.count_is ∙ sym (last_part said ls a.count_is)
