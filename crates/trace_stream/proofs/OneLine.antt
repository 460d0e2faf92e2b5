-- Bytes of one line at most.
use Rattle.std.proofs.Common.{◌≡◌, ◌⊎◌, inl, inr, ℕ, ◌<◌, ◌≤◌, Bool, false, List, [], ◌∷◌, ◌++◌, length, take, drop, refl}
use Rattle.std.proofs.Common.{sym, ap, ◌∙◌, subst, arith, append_assoc, append-nil, take-append-drop, length-append}
use Rattle.std.proofs.lemmas.Bool.{cases_eq, eq-eqb, ne_eqb}
use Rattle.std.proofs.lemmas.List.{take-append-le, take_all}
use Rattle.std.proofs.lemmas.List.Elements.{All-nil, All-cons, All-head, All-tail, All-append, All-take}
use Rattle.trace_reader.specs.TraceText.{lines}
use Rattle.trace_reader.specs.Feeds.{HasNoFeed, through_feed}
use Rattle.trace_reader.specs.Reader.{EndsWithFeed, feed}
use Rattle.trace_reader.proofs.LineLemmas.{done, rest, lines-nil, lines-append, lines-rest, lines-line}
use Rattle.trace_reader.proofs.ReaderTakes.{through_parts}

abbrev IsNoFeed : ℕ → Type 0
IsNoFeed c = c ≡ 10 → ⊥

-- bytes of one line: without an LF, or with one at their end
abbrev pub IsOneLine : List ℕ → Type 0
IsOneLine t = HasNoFeed t ⊎ ((w : List ℕ) × HasNoFeed w × (t ≡ w ++ 10 ∷ []))

-- bytes up to their first LF are one line
pub through_line : (p : List ℕ) → IsOneLine (through_feed p)
through_line [] = inl (All-nil IsNoFeed)
through_line (x ∷ p) = by_test (through_line p) (cases_eq x 10)
  where
    by_test : IsOneLine (through_feed p) → (x ≡ 10) ⊎ (x ≡ 10 → ⊥) → IsOneLine (through_feed (x ∷ p))
    by_test h (inl e) = rw (eq-eqb x 10 e) (inr ([], All-nil IsNoFeed, ap (λ c. c ∷ []) e))
    by_test (inl free) (inr e) = rw (ne_eqb x 10 e) (inl (All-cons IsNoFeed x (through_feed p) e free))
    by_test (inr (w, free, is)) (inr e) = rw (ne_eqb x 10 e) (inr (x ∷ w, All-cons IsNoFeed x w e free, ap (λ t. x ∷ t) is))

rest_few : (e : Bool) (xs : List ℕ) → length (rest e xs) ≤ 1
rest_few e [] = omega arith
rest_few e (x ∷ xs) = omega arith

-- bytes of one line without its LF are one line at most
pub one_left : (e : Bool) (xs : List ℕ) → HasNoFeed xs → length (lines e xs) ≤ 1
one_left e xs free = subst (λ ls. length ls ≤ 1) (sym (lines-rest e xs free)) (rest_few e xs)

-- a line with its LF
pub closed_line : (e : Bool) (a w : List ℕ) → HasNoFeed a → HasNoFeed w → lines e (a ++ (w ++ 10 ∷ [])) ≡ done (a ++ w) ∷ []
closed_line e a w p q =
    ap (lines e) (sym (append_assoc a w (10 ∷ []))) ∙ lines-append e (a ++ w) []
    ∙ ap (λ ls. lines false ((a ++ w) ++ 10 ∷ []) ++ ls) (lines-nil e) ∙ append-nil (lines false ((a ++ w) ++ 10 ∷ []))
    ∙ lines-line (a ++ w) (All-append IsNoFeed a w p q)

-- after the bytes of an unfinished line they are one line
pub one_at_most : (e : Bool) (a t : List ℕ) → HasNoFeed a → IsOneLine t → length (lines e (a ++ t)) ≤ 1
one_at_most e a t free (inl more) = one_left e (a ++ t) (All-append IsNoFeed a t free more)
one_at_most e a t free (inr (w, more, is)) =
    subst (λ ls. length ls ≤ 1) (sym (ap (λ x. lines e (a ++ x)) is ∙ closed_line e a w free more)) (omega arith)

last_feed : (b : List ℕ) → HasNoFeed (b ++ 10 ∷ []) → ⊥
last_feed [] h = All-head IsNoFeed 10 [] h refl
last_feed (x ∷ b) h = last_feed b (All-tail IsNoFeed x (b ++ 10 ∷ []) h)

no_feed_at_end : {t : List ℕ} → HasNoFeed t → EndsWithFeed t → ⊥
no_feed_at_end free (feed b) = last_feed b free

-- a front of one line that ends with an LF is all of it
pub fed_line : (k : ℕ) (t : List ℕ) → IsOneLine t → EndsWithFeed (take k t) → (w : List ℕ) × HasNoFeed w × (take k t ≡ w ++ 10 ∷ [])
fed_line k t (inl free) ends = absurd (no_feed_at_end (All-take IsNoFeed k t free) ends)
fed_line k t (inr (w, free, is)) ends = by_size (cases_size k (length w))
  where
    cases_size : (a b : ℕ) → (a ≤ b) ⊎ (b < a)
    cases_size a b = grind arith

    by_size : (k ≤ length w) ⊎ (length w < k) → (w : List ℕ) × HasNoFeed w × (take k t ≡ w ++ 10 ∷ [])
    by_size (inl within) =
        let same : take k t ≡ take k w = ap (take k) is ∙ take-append-le k w (10 ∷ []) within in
        absurd (no_feed_at_end (subst HasNoFeed (sym same) (All-take IsNoFeed k w free)) ends)
    by_size (inr beyond) =
        let all : length t ≤ k = omega (arith, ap length is, length-append w (10 ∷ []), beyond) in
        (w, free, take_all k t all ∙ is)

-- what is taken of the front is taken of the whole
pub taken_of : (k : ℕ) (piece : List ℕ) → k ≤ length (through_feed piece) → take k (through_feed piece) ≡ take k piece
taken_of k piece within = let (others, e) = through_parts piece in sym (ap (take k) e ∙ take-append-le k (through_feed piece) others within)

-- the bytes after what was taken
pub left_over : (bytes piece : List ℕ) (k : ℕ) → k ≤ length (through_feed piece) → bytes ++ piece ≡ (bytes ++ take k (through_feed piece)) ++ drop k piece
left_over bytes piece k within =
    ap (λ t. bytes ++ t) (sym (take-append-drop k piece)) ∙ sym (append_assoc bytes (take k piece) (drop k piece))
    ∙ ap (λ t. (bytes ++ t) ++ drop k piece) (sym (taken_of k piece within))
