-- Decimals without the zeros at their end.
use Rattle.std.proofs.Common.{◌≡◌, ℕ, zero, suc, ◌+◌, ◌-◌, ◌*◌, ◌/◌, ◌%◌, ◌^◌, ◌<◌, ◌≤◌, Bool, true, false, List}
use Rattle.std.proofs.Common.{[], ◌∷◌, ◌++◌, length, min, reverse, refl, sym, ◌∙◌, ap, arith, ◌⊎◌, inl, inr, lit<}
use Rattle.std.proofs.lemmas.Bool.{eqb-true, le-leb, cases_Bool, and_from}
use Rattle.std.proofs.lemmas.List.{reverse-append, reverse-reverse, length-reverse, length_push}
use Rattle.std.proofs.Math.Nat.{pow-suc, pow-zero, one-le-pow}
use Rattle.std.specs.Prelude.{◌==◌}
use Rattle.stl_syntax.specs.Characters.{after_first, without_zeros, is_digit, all, decimal_value}
use Rattle.stl_syntax.proofs.CharacterLemmas.{all-append, all-reverse, all-after_first}
use Rattle.stl_syntax.specs.Print.{IsDecimalText}
use Rattle.stl_syntax.specs.Printing.{last_digits, decimal_text}

-- a zero at the end goes away
pub without_zeros-zero : (xs : List ℕ) → without_zeros (xs ++ 48 ∷ []) ≡ without_zeros xs
without_zeros-zero xs = rw (reverse-append xs (48 ∷ [])) refl

-- one place less where the last digit is 0
pub without_zeros-less : (k n : ℕ) → 0 < k → n % 10 ≡ 0 → without_zeros (last_digits (k - 1) (n / 10)) ≡ without_zeros (last_digits k n)
without_zeros-less k n some zero_digit = by_place k some
  where
    by_place : (k : ℕ) → 0 < k → without_zeros (last_digits (k - 1) (n / 10)) ≡ without_zeros (last_digits k n)
    by_place zero l = absurd (omega (arith, l))
    by_place (suc k) l =
        let same : suc k - 1 ≡ k = omega arith in
        rw (same, zero_digit) (sym (without_zeros-zero (last_digits k (n / 10))))

-- one digit more
pub decimal_value-push : (w : ℕ) (xs : List ℕ) (c : ℕ) → decimal_value w (xs ++ c ∷ []) ≡ 10 * decimal_value w xs + (c - 48)
decimal_value-push w [] c = refl
decimal_value-push w (x ∷ xs) c = decimal_value-push (10 * w + (x - 48)) xs c

-- more digits
pub decimal_value-append : (w : ℕ) (xs ys : List ℕ) → decimal_value w (xs ++ ys) ≡ decimal_value (decimal_value w xs) ys
decimal_value-append w [] ys = refl
decimal_value-append w (x ∷ xs) ys = decimal_value-append (10 * w + (x - 48)) xs ys

-- numbers that are the same below a limit stay so after more digits
pub decimal_value-min : (v n : ℕ) (digits : List ℕ) → min v 4294967296 ≡ min n 4294967296
    → min (decimal_value v digits) 4294967296 ≡ min (decimal_value n digits) 4294967296
decimal_value-min v n [] h = h
decimal_value-min v n (c ∷ digits) h = decimal_value-min (10 * v + (c - 48)) (10 * n + (c - 48)) digits (omega (arith, h))

-- so many digits were asked for
pub length-last_digits : (k n : ℕ) → length (last_digits k n) ≡ k
length-last_digits zero n = refl
length-last_digits (suc k) n = omega (arith, length_push (last_digits k (n / 10)) (48 + n % 10), length-last_digits k (n / 10))

-- the number whose last digits these are
decimal_value-last_digits : (w k n : ℕ) → n < 10 ^ k → decimal_value w (last_digits k n) ≡ w * 10 ^ k + n
decimal_value-last_digits w zero n l = omega (arith, pow-zero 10)
decimal_value-last_digits w (suc k) n l =
    let power : 10 ^ suc k ≡ 10 ^ k * 10 = pow-suc 10 k in
    let less : n / 10 < 10 ^ k = omega (arith, power) in
    let shifted : w * 10 ^ suc k ≡ w * 10 ^ k * 10 = ap (λ p. w * p) power ∙ omega arith in
    decimal_value-push w (last_digits k (n / 10)) (48 + n % 10) ∙ omega (arith, decimal_value-last_digits w k (n / 10) less, shifted)

-- what is left after the first zeros, read backwards, is the same number with fewer places
cut_zeros : (w : ℕ) (ys : List ℕ) → decimal_value w (reverse ys) * 10 ^ length (after_first (λ c. c == 48) ys) ≡ decimal_value w
    (reverse (after_first (λ c. c == 48) ys)) * 10 ^ length ys
cut_zeros w [] = refl
cut_zeros w (c ∷ ys) = by_digit (cut_zeros w ys) (cases_Bool (c == 48))
  where
    by_digit : decimal_value w (reverse ys) * 10 ^ length (after_first (λ c. c == 48) ys) ≡ decimal_value w
        (reverse (after_first (λ c. c == 48) ys)) * 10 ^ length ys
        → ((c == 48) ≡ true) ⊎ ((c == 48) ≡ false)
        → decimal_value w (reverse (c ∷ ys)) * 10 ^ length (after_first (λ c. c == 48) (c ∷ ys)) ≡ decimal_value w
        (reverse (after_first (λ c. c == 48) (c ∷ ys))) * 10 ^ length (c ∷ ys)
    by_digit below (inl zero_digit) =
        let same : c ≡ 48 = eqb-true c 48 zero_digit in
        let pushed : decimal_value w (reverse (c ∷ ys)) ≡ 10 * decimal_value w (reverse ys) =
        ap (decimal_value w) (reverse-append (c ∷ []) ys) ∙ decimal_value-push w (reverse ys) c ∙ omega arith in
        let power : 10 ^ suc (length ys) ≡ 10 ^ length ys * 10 = pow-suc 10 (length ys) in
        let whole : 10 * decimal_value w (reverse ys) * 10 ^ length (after_first (λ c. c == 48) ys) ≡ decimal_value w
        (reverse (after_first (λ c. c == 48) ys)) * (10 ^ length ys * 10) = omega (arith, below) in
        rw (zero_digit, pushed, power) whole
    by_digit below (inr other) = rw other refl

after_first-after_first : (p : ℕ → Bool) (xs : List ℕ) → after_first p (after_first p xs) ≡ after_first p xs
after_first-after_first p [] = refl
after_first-after_first p (c ∷ xs) = by_test (after_first-after_first p xs) (cases_Bool (p c))
  where
    by_test : after_first p (after_first p xs) ≡ after_first p xs → (p c ≡ true) ⊎ (p c ≡ false)
        → after_first p (after_first p (c ∷ xs)) ≡ after_first p (c ∷ xs)
    by_test again (inl t) = rw t again
    by_test again (inr f) = rw (f) (rw (f) refl)

-- the zeros at the end are gone
pub without_zeros-without_zeros : (xs : List ℕ) → without_zeros (without_zeros xs) ≡ without_zeros xs
without_zeros-without_zeros xs =
    ap (λ ys. reverse (after_first (λ c. c == 48) ys)) (reverse-reverse (after_first (λ c. c == 48) (reverse xs)))
    ∙ ap reverse (after_first-after_first (λ c. c == 48) (reverse xs))

-- decimals are digits
pub all-without_zeros : (xs : List ℕ) → all is_digit xs ≡ true → all is_digit (without_zeros xs) ≡ true
all-without_zeros xs h =
    all-reverse is_digit (after_first (λ c. c == 48) (reverse xs)) (all-after_first is_digit (λ c. c == 48) (reverse xs) (all-reverse is_digit xs h))

-- and each of them is one
pub all-last_digits : (k n : ℕ) → all is_digit (last_digits k n) ≡ true
all-last_digits zero n = refl
all-last_digits (suc k) n =
    let low : 48 ≤ 48 + n % 10 = omega arith in
    let high : 48 + n % 10 ≤ 57 = omega arith in
    all-append is_digit (last_digits k (n / 10)) ((48 + n % 10) ∷ []) (all-last_digits k (n / 10))
    (and_from (is_digit (48 + n % 10)) true (and_from _ _ (le-leb 48 (48 + n % 10) low) (le-leb (48 + n % 10) 57 high)) refl)

-- the decimal with the fewest digits
pub decimal_is : (digits n : ℕ) → IsDecimalText digits n (decimal_text digits n)
unfolding decimal_text
decimal_is digits n =
    let unit : ℕ = 10 ^ digits in
    let some : 0 < 10 ^ digits = one-le-pow digits 10 (lit< tt) in
    let rest : List ℕ = last_digits digits (n % unit) in
    let below : n % unit < unit = omega (arith, some) in
    let split : n / unit * unit + n % unit ≡ n = omega (arith, some) in
    let value : decimal_value (n / unit) rest ≡ n = decimal_value-last_digits (n / unit) digits (n % unit) below ∙ split in
    let cut : decimal_value (n / unit) (reverse (reverse rest)) * 10 ^ length (after_first (λ c. c == 48) (reverse rest))
    ≡ decimal_value (n / unit) (without_zeros rest) * 10 ^ length (reverse rest) = cut_zeros (n / unit) (reverse rest) in
    let places : length (reverse rest) ≡ digits = length-reverse rest ∙ length-last_digits digits (n % unit) in
    let fewer : length (without_zeros rest) ≡ length (after_first (λ c. c == 48) (reverse rest)) = length-reverse (after_first (λ c. c == 48) (reverse rest)) in
    let whole_value : decimal_value (n / unit) (reverse (reverse rest)) ≡ n = ap (decimal_value (n / unit)) (reverse-reverse rest) ∙ value in
    record {
      whole = n / unit;
      decimals = without_zeros rest;
      are_digits = all-without_zeros rest (all-last_digits digits (n % unit));
      fewest = without_zeros-without_zeros rest;
      same = ap (λ l. n * 10 ^ l) fewer ∙ ap (λ m. m * 10 ^ length (after_first (λ c. c == 48) (reverse rest))) (sym whole_value)
          ∙ cut ∙ ap (λ l. decimal_value (n / unit) (without_zeros rest) * 10 ^ l) places;
      is = refl;
    }
