-- The first bytes of a kind, what follows them, and texts whose bytes are all of a kind.
use Rattle.std.proofs.Common.{◌≡◌, ◌<◌, ◌⊎◌, inl, inr, ℕ, zero, suc, List, [], ◌∷◌, ◌++◌, reverse, get_or, lit<, refl, Bool, true, false, if◌then◌else◌, arith}
use Rattle.std.proofs.lemmas.Bool.{cases_Bool, and_parts, and_from}
use Rattle.std.proofs.lemmas.Bool.Decides.{nat_tests}
use Rattle.std.proofs.lemmas.List.{reverse-append}
use Rattle.stl_syntax.specs.Characters.{all, StopsAt, after_first, begins_word, goes_on_word}

-- the first bytes of a kind
unfoldable pub span_of : (ℕ → Bool) → List ℕ → List ℕ
span_of p [] = []
span_of p (c ∷ text) = if p c then c ∷ span_of p text else []

-- the first bytes that pass, where all of a front pass and then one does not
pub span_all : (p : ℕ → Bool) (xs text : List ℕ) → all p xs ≡ true → StopsAt p text → span_of p (xs ++ text) ≡ xs
unfolding span_of
span_all p [] [] h k = refl
span_all p [] (c ∷ text) h k = rw k refl
span_all p (c ∷ xs) text h k =
    let a : p c ≡ true = grind (arith, h) in let b : all p xs ≡ true = grind (arith, h) in
    rw (a, span_all p xs text b k) refl

-- all of them, where each passes
pub span_whole : (p : ℕ → Bool) (xs : List ℕ) → all p xs ≡ true → span_of p xs ≡ xs
unfolding span_of
span_whole p [] h = refl
span_whole p (c ∷ xs) h = let a : p c ≡ true = grind (arith, h) in let b : all p xs ≡ true = grind (arith, h) in rw (a, span_whole p xs b) refl

-- what follows the first bytes that pass
pub after_all : (p : ℕ → Bool) (xs text : List ℕ) → all p xs ≡ true → StopsAt p text → after_first p (xs ++ text) ≡ text
after_all p [] [] h k = refl
after_all p [] (c ∷ text) h k = rw k refl
after_all p (c ∷ xs) text h k =
    let a : p c ≡ true = grind (arith, h) in let b : all p xs ≡ true = grind (arith, h) in
    rw (a, after_all p xs text b k) refl

-- what is so of each byte of two texts is so of both together, and of the rest after the first of a kind
pub all-append : (p : ℕ → Bool) (xs ys : List ℕ) → all p xs ≡ true → all p ys ≡ true → all p (xs ++ ys) ≡ true
all-append p [] ys h k = k
all-append p (c ∷ xs) ys h k = let parts = and_parts (p c) (all p xs) h in and_from (p c) (all p (xs ++ ys)) parts.0 (all-append p xs ys parts.1 k)

-- one more byte that passes
pub all-push : (p : ℕ → Bool) (xs : List ℕ) (c : ℕ) → all p xs ≡ true → p c ≡ true → all p (xs ++ c ∷ []) ≡ true
all-push p xs c h k = all-append p xs (c ∷ []) h (and_from (p c) true k refl)

-- bytes that all pass do so in reverse
pub all-reverse : (p : ℕ → Bool) (xs : List ℕ) → all p xs ≡ true → all p (reverse xs) ≡ true
all-reverse p [] h = refl
all-reverse p (c ∷ xs) h =
    let parts = and_parts (p c) (all p xs) h in
    rw (reverse-append (c ∷ []) xs) (all-append p (reverse xs) (c ∷ []) (all-reverse p xs parts.1) (and_from (p c) true parts.0 refl))

-- and after some are left out at the front
pub all-after_first : (p q : ℕ → Bool) (xs : List ℕ) → all p xs ≡ true → all p (after_first q xs) ≡ true
all-after_first p q [] h = refl
all-after_first p q (c ∷ xs) h = by_test (all-after_first p q xs (and_parts (p c) (all p xs) h).1) (cases_Bool (q c))
  where
    by_test : all p (after_first q xs) ≡ true → (q c ≡ true) ⊎ (q c ≡ false) → all p (after_first q (c ∷ xs)) ≡ true
    by_test less (inl t) = rw t less
    by_test less (inr f) = rw f h

-- the bytes of words are ASCII
word_ascii : (c : ℕ) → goes_on_word c ≡ true → c < 128
word_ascii c h = grind (arith, nat_tests, h)

-- the bytes of a word are below 128
pub words_ascii : (text : List ℕ) → all goes_on_word text ≡ true → (i : ℕ) → get_or text i 0 < 128
words_ascii [] h i = lit< tt
words_ascii (c ∷ text) h zero = word_ascii c (let a : goes_on_word c ≡ true = grind (arith, h) in a)
words_ascii (c ∷ text) h (suc i) = words_ascii text (let a : all goes_on_word text ≡ true = grind (arith, h) in a) i

-- what may begin a word may go on in it
pub begins_goes_on : (c : ℕ) → begins_word c ≡ true → goes_on_word c ≡ true
begins_goes_on c h = rw h refl
