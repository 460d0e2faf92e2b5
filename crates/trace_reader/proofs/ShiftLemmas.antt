-- The digits moved to the top of the word, behind zeros.
use Rattle.std.proofs.Common.{◌≡◌, ℕ, zero, suc, ◌-◌, ◌*◌, ◌%◌, ◌^◌, ◌<◌, ◌≤◌, List, [], ◌∷◌, ◌++◌, length}
use Rattle.std.proofs.Common.{map, take, get_or, refl, sym, ap, ◌∙◌, arith, length-append, length-take}
use Rattle.std.specs.Prelude.{replicate}
use Rattle.std.specs.Int.Bits.{bit_xor}
use Rattle.std.proofs.lemmas.Nat.{xor_lt}
use Rattle.std.proofs.lemmas.List.{take-map, take-take, length-replicate}
use Rattle.stl_syntax.specs.Characters.{decimal_value}
use Rattle.trace_reader.specs.Words.{word_of, Below, spelled, IsCount}
use Rattle.trace_reader.proofs.ByteLemmas.{xor_bytes, both, eight_of, four_of}
use Rattle.trace_reader.proofs.DigitBytes.{bare, spelled_is, worths_below}

-- of w bytes zeros, and the first n behind them
abbrev pub moved : ℕ → ℕ → List ℕ → List ℕ
moved w n ds = replicate (w - n) 0 ++ take n ds

one_to_eight : (P : ℕ → Type 0) → P 1 → P 2 → P 3 → P 4 → P 5 → P 6 → P 7 → P 8 → (n : ℕ) → 0 < n → n ≤ 8 → P n
one_to_eight P a b c d e f g h zero some few = absurd (omega (arith, some))
one_to_eight P a b c d e f g h (suc zero) some few = a
one_to_eight P a b c d e f g h (suc (suc zero)) some few = b
one_to_eight P a b c d e f g h (suc (suc (suc zero))) some few = c
one_to_eight P a b c d e f g h (suc (suc (suc (suc zero)))) some few = d
one_to_eight P a b c d e f g h (suc (suc (suc (suc (suc zero))))) some few = e
one_to_eight P a b c d e f g h (suc (suc (suc (suc (suc (suc zero)))))) some few = f
one_to_eight P a b c d e f g h (suc (suc (suc (suc (suc (suc (suc zero))))))) some few = g
one_to_eight P a b c d e f g h (suc (suc (suc (suc (suc (suc (suc (suc zero)))))))) some few = h
one_to_eight P a b c d e f g h (suc (suc (suc (suc (suc (suc (suc (suc (suc n))))))))) some few = absurd (omega (arith, few))

abbrev Shifted : List ℕ → ℕ → Type 0
Shifted ds n = Below 256 ds → word_of ds * 2 ^ (64 - 8 * n) % 18446744073709551616 ≡ word_of (moved 8 n ds)

shifted_eight : (a b c d e f g h n : ℕ) → 0 < n → n ≤ 8 → Shifted (a ∷ b ∷ c ∷ d ∷ e ∷ f ∷ g ∷ h ∷ []) n
shifted_eight a b c d e f g h = one_to_eight (Shifted (a ∷ b ∷ c ∷ d ∷ e ∷ f ∷ g ∷ h ∷ []))
    (λ l. omega (arith, l)) (λ l. omega (arith, l)) (λ l. omega (arith, l)) (λ l. omega (arith, l))
    (λ l. omega (arith, l)) (λ l. omega (arith, l)) (λ l. omega (arith, l)) (λ l. omega (arith, l))

pub shifted : (ds : List ℕ) → length ds ≡ 8 → (n : ℕ) → 0 < n → n ≤ 8 → Shifted ds n
shifted = eight_of (λ ds. (n : ℕ) → 0 < n → n ≤ 8 → Shifted ds n) shifted_eight

-- half a word, shifted by whole bytes
abbrev ShiftedFour : List ℕ → ℕ → Type 0
ShiftedFour ds n = Below 256 ds → word_of ds * 2 ^ (32 - 8 * n) % 4294967296 ≡ word_of (moved 4 n ds)

-- so that its first one, two or three bytes stand at its top
shifted_few : (a b c d n : ℕ) → 0 < n → n < 4 → ShiftedFour (a ∷ b ∷ c ∷ d ∷ []) n
shifted_few a b c d zero some few = absurd (omega (arith, some))
shifted_few a b c d (suc zero) some few = λ l. omega (arith, l)
shifted_few a b c d (suc (suc zero)) some few = λ l. omega (arith, l)
shifted_few a b c d (suc (suc (suc zero))) some few = λ l. omega (arith, l)
shifted_few a b c d (suc (suc (suc (suc n)))) some few = absurd (omega (arith, few))

-- so it is of each list of four bytes
pub shifted_four : (ds : List ℕ) → length ds ≡ 4 → (n : ℕ) → 0 < n → n < 4 → ShiftedFour ds n
shifted_four = four_of (λ ds. (n : ℕ) → 0 < n → n < 4 → ShiftedFour ds n) shifted_few

spelled_zeros : (k : ℕ) (xs : List ℕ) → spelled 0 (replicate k 0 ++ xs) ≡ spelled 0 xs
spelled_zeros zero xs = refl
spelled_zeros (suc k) xs = spelled_zeros k xs

zeros_below : (k : ℕ) (xs : List ℕ) → Below 10 xs → Below 10 (replicate k 0 ++ xs)
zeros_below zero xs l = l
zeros_below (suc k) xs l = (omega arith, zeros_below k xs l)

-- the bytes of a text
pub below_from : (xs : List ℕ) → ((i : ℕ) → get_or xs i 0 < 256) → Below 256 xs
below_from [] h = tt
below_from (x ∷ xs) h = (h 0, below_from xs (λ i. h (suc i)))

pub below_take : (n : ℕ) (xs : List ℕ) → Below 256 xs → Below 256 (take n xs)
below_take zero xs l = tt
below_take (suc n) [] l = tt
below_take (suc n) (x ∷ xs) l = (l.0, below_take n xs l.1)

pub bare_below : (xs : List ℕ) → Below 256 xs → Below 256 (map bare xs)
bare_below [] l = tt
bare_below (x ∷ xs) l = (xor_lt 8 x 48 l.0 (omega arith), bare_below xs l.1)

pub length_bare : (xs : List ℕ) → length (map bare xs) ≡ length xs
length_bare [] = refl
length_bare (x ∷ xs) = ap suc (length_bare xs)

-- the lower half of a word has the first four bytes
low_half : (xs : List ℕ) → length xs ≡ 8 → Below 256 xs → word_of xs % 4294967296 ≡ word_of (take 4 xs)
low_half = eight_of (λ xs. Below 256 xs → word_of xs % 4294967296 ≡ word_of (take 4 xs)) (λ a b c d e f g h l. omega (arith, l))

-- as the word of eight bytes of a text has
pub first_half : (text : List ℕ) → 8 ≤ length text → Below 256 (take 8 text) → word_of (take 8 text) % 4294967296 ≡ word_of (take 4 text)
first_half text h l = low_half (take 8 text) (omega (arith, length-take 8 text, h)) l ∙ ap word_of (take-take 4 8 text (omega arith))

-- 48 at each byte
abbrev all_48 : List ℕ → List ℕ
all_48 xs = replicate (length xs) 48

-- which are bytes
below_48 : (xs : List ℕ) → Below 256 (all_48 xs)
below_48 [] = tt
below_48 (x ∷ xs) = (omega arith, below_48 xs)

-- each byte less the bits of '0'
bare_each : (xs : List ℕ) → both bit_xor xs (all_48 xs) ≡ map bare xs
bare_each [] = refl
bare_each (x ∷ xs) = ap (λ t. bit_xor x 48 ∷ t) (bare_each xs)

-- the word less the bits of '0' in each byte
bare_words : (xs : List ℕ) → Below 256 xs → bit_xor (word_of xs) (word_of (all_48 xs)) ≡ word_of (map bare xs)
bare_words xs l = xor_bytes xs (all_48 xs) (sym (length-replicate (length xs) 48)) l (below_48 xs) ∙ ap word_of (bare_each xs)

pub bare_word : (xs : List ℕ) → length xs ≡ 8 → Below 256 xs → bit_xor (word_of xs) 3472328296227680304 ≡ word_of (map bare xs)
bare_word xs n l = ap (λ k. bit_xor (word_of xs) (word_of (replicate k 48))) (sym n) ∙ bare_words xs l

-- and half a word
pub bare_four : (xs : List ℕ) → length xs ≡ 4 → Below 256 xs → bit_xor (word_of xs) 808464432 ≡ word_of (map bare xs)
bare_four xs n l = ap (λ k. bit_xor (word_of xs) (word_of (replicate k 48))) (sym n) ∙ bare_words xs l

-- eight digits are below 10^8
spelled_small : (ds : List ℕ) → length ds ≡ 8 → Below 10 ds → spelled 0 ds ≤ 99999999
spelled_small = eight_of (λ ds. Below 10 ds → spelled 0 ds ≤ 99999999) (λ a b c d e f g h l. omega (arith, l))

-- what the first digits of w bytes are, moved to the top
pub record IsMoved (w : ℕ) (text : List ℕ) (n : ℕ) : Type 0 where
  pub length : length (moved w n (map bare text)) ≡ w
  pub digits : Below 10 (moved w n (map bare text))
  pub number : spelled 0 (moved w n (map bare text)) ≡ decimal_value 0 (take n text)

-- digits of a text, moved to the top, spell what they are worth
pub is_moved : (w : ℕ) (text : List ℕ) (n : ℕ) → length text ≡ w → Below 256 text → n ≤ w → IsCount text n → IsMoved w text n
is_moved w text n l b few count =
    let t : take n (map bare text) ≡ map bare (take n text) = take-map bare n text in
    let zeros = length-replicate {A = ℕ} (w - n) 0 in
    record {
      length = omega (arith, length-append (replicate (w - n) 0) (take n (map bare text)), zeros, length-take n (map bare text), length_bare text, l, few);
      digits = zeros_below (w - n) (take n (map bare text)) (rw t (worths_below (take n text) (below_take n text b) count.digits));
      number = spelled_zeros (w - n) (take n (map bare text)) ∙ (ap (spelled 0) t ∙ spelled_is 0 (take n text) (below_take n text b) count.digits);
    }

-- of eight bytes they spell a number below 10^8
pub small_moved : {text : List ℕ} {n : ℕ} → IsMoved 8 text n → spelled 0 (moved 8 n (map bare text)) ≤ 99999999
small_moved {text} {n} m = spelled_small (moved 8 n (map bare text)) m.length m.digits
