-- The digits that a text begins with.
use Rattle.std.proofs.Common.{◌≡◌, ℕ, suc, zero, ◌+◌, ◌-◌, ◌%◌, ◌<◌, ◌≤◌, Bool, true, false, List, [], ◌∷◌, ◌++◌, length}
use Rattle.std.proofs.Common.{take, drop, refl, sym, ap, ◌∙◌, arith, ℤ, nat_abs, pos, negsuc, nat_eq, SFits, w32}
use Rattle.std.proofs.lemmas.Int.{ints}
use lib.Pointwise.{pointwise}
use Rattle.std.specs.Cmp.Lexicographic.{same_text}
use Rattle.std.proofs.lemmas.List.{take-append-drop}
use Rattle.stl_syntax.specs.Characters.{all, StopsAt}

-- a text of such bytes ends where one of another kind would stand
pub all_ends : (p : ℕ → Bool) (xs : List ℕ) (n : ℕ) → all p xs ≡ true → StopsAt p (drop n xs) → length xs ≤ n
all_ends p [] n h s = omega arith
all_ends p (x ∷ xs) zero h s = absurd (let a : p x ≡ true = grind (arith, h) in cc)
all_ends p (x ∷ xs) (suc n) h s = let b : all p xs ≡ true = grind (arith, h) in omega (arith, all_ends p xs n b s)

-- the first bytes of a kind end before one of another kind
pub front_ends : (p : ℕ → Bool) (xs : List ℕ) (c : ℕ) (more : List ℕ) (n : ℕ) → all p xs ≡ true → p c ≡ false
    → all p (take n (xs ++ c ∷ more)) ≡ true → StopsAt p (drop n (xs ++ c ∷ more)) → length xs ≡ n
front_ends p [] c more zero h k t s = refl
front_ends p [] c more (suc n) h k t s = absurd (let a : p c ≡ true = grind (arith, t) in cc)
front_ends p (x ∷ xs) c more zero h k t s = absurd (let a : p x ≡ true = grind (arith, h) in cc)
front_ends p (x ∷ xs) c more (suc n) h k t s =
    let b : all p xs ≡ true = grind (arith, h) in let d : all p (take n (xs ++ c ∷ more)) ≡ true = grind (arith, t) in
    ap suc (front_ends p xs c more n b k d s)

-- a byte less 48, where it is at most 9
pub wrapped : (c : ℕ) → c < 256 → (c + 18446744073709551568) % 18446744073709551616 ≤ 9
    → (48 ≤ c) × (c ≤ 57) × ((c + 18446744073709551568) % 18446744073709551616 ≡ c - 48)
wrapped c s h = (omega arith, omega arith, omega arith)

-- a value fits its type
pub value_fits : (v : ℤ) → nat_abs v ≤ 16777216 → SFits w32 v
value_fits (pos n) h = omega (arith, ints)
value_fits (negsuc n) h = omega (arith, ints)

-- the text goes on after a prefix that was found
pub after_prefix : (text prefix more : List ℕ) (n : ℕ) → pointwise nat_eq (take n text) prefix ≡ true → more ≡ drop n text → text ≡ prefix ++ more
after_prefix text prefix more n p e =
    let h : take n text ≡ prefix = same_text (take n text) prefix (sym p) in
    sym (take-append-drop n text) ∙ (ap (λ t. t ++ drop n text) h ∙ ap (λ t. prefix ++ t) (sym e))
