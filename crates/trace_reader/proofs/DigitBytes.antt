-- A byte less the bits of '0': a digit's worth, or above 9.
use Rattle.std.proofs.Common.{◌≡◌, ℕ, zero, suc, ◌+◌, ◌-◌, ◌*◌, ◌<◌, ◌≤◌, Bool, true, false, List, [], ◌∷◌}
use Rattle.std.proofs.Common.{map, take, drop, refl, sym, ◌∙◌, arith}
use Rattle.std.specs.Prelude.{◌==◌, ◌||◌, not, bit_xor}
use Rattle.std.proofs.lemmas.Bool.{eqb-true, and_parts}
use Rattle.stl_syntax.specs.Characters.{is_digit, all, decimal_value, StopsAt}
use Rattle.trace_reader.specs.Words.{Below, spelled, is_worth}
use Rattle.trace_reader.proofs.ByteTables.{upto, upto_is}

-- what a byte is without the bits of '0'
abbrev pub bare : ℕ → ℕ
bare b = bit_xor b 48

same : Bool → Bool → Bool
same true q = q
same false q = not q

same_is : (p q : Bool) → same p q ≡ true → p ≡ q
unfolding same
same_is true true h = refl
same_is false false h = refl
same_is true false h = sym h
same_is false true h = h

told : ℕ → Bool
told b = same (is_worth (bare b)) (is_digit b)

worth : ℕ → Bool
worth b = not (is_digit b) || (bare b == b - 48)

-- the byte is a digit where what is left is at most 9
bare_told : (b : ℕ) → b < 256 → is_worth (bare b) ≡ is_digit b
unfolding upto told same
bare_told b l = same_is (is_worth (bare b)) (is_digit b) (upto_is told 256 b refl l)

digit_worth : (b : ℕ) → b < 256 → is_digit b ≡ true → bare b ≡ b - 48
unfolding upto worth
digit_worth b l h =
    let t : (not (is_digit b) || (bare b == b - 48)) ≡ true = upto_is worth 256 b refl l in
    let u : (bare b == b - 48) ≡ true = rw h at t in
    eqb-true (bare b) (b - 48) u

pub all_told : (n : ℕ) (xs : List ℕ) → Below 256 xs → all is_worth (take n (map bare xs)) ≡ all is_digit (take n xs)
all_told zero xs l = refl
all_told (suc n) [] l = refl
all_told (suc n) (x ∷ xs) l = rw (bare_told x l.0, all_told n xs l.1) refl

pub stops_told : (n : ℕ) (xs : List ℕ) → Below 256 xs → StopsAt is_worth (drop n (map bare xs)) → StopsAt is_digit (drop n xs)
stops_told zero [] l h = tt
stops_told zero (x ∷ xs) l h = sym (bare_told x l.0) ∙ h
stops_told (suc n) [] l h = tt
stops_told (suc n) (x ∷ xs) l h = stops_told n xs l.1 h

-- digits spell the same number as their worths
pub spelled_is : (n : ℕ) (xs : List ℕ) → Below 256 xs → all is_digit xs ≡ true → spelled n (map bare xs) ≡ decimal_value n xs
spelled_is n [] l h = refl
spelled_is n (x ∷ xs) l h =
    let parts = and_parts (is_digit x) (all is_digit xs) h in
    rw (digit_worth x l.0 parts.0) (spelled_is (10 * n + (x - 48)) xs l.1 parts.1)

-- and each worth is below 10
pub worths_below : (xs : List ℕ) → Below 256 xs → all is_digit xs ≡ true → Below 10 (map bare xs)
worths_below [] l h = tt
worths_below (x ∷ xs) l h =
    let parts = and_parts (is_digit x) (all is_digit xs) h in
    let w = digit_worth x l.0 parts.0 in
    let d : is_digit x ≡ true = parts.0 in
    let s : x ≤ 57 = grind (arith, d) in
    (omega (arith, w, s), worths_below xs l.1 parts.1)
