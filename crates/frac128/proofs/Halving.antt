-- Greatest common divisors by halving: what factors of two do to them, and the odd part of a number.
use Rattle.std.proofs.Common.{◌≡◌, ℕ, zero, suc, ◌+◌, ◌-◌, ◌*◌, ◌/◌, ◌%◌, ◌^◌, ◌<◌, ◌≤◌, ◌⊎◌, inl, inr, min, arith, ap, sym, refl, ◌∙◌, subst}
use Prim.Native.Nat.{◌∣◌}
use Rattle.std.specs.Int.{IsGcd, abs_diff, bit_at, trailing_zeros, w64}
use Rattle.std.proofs.lemmas.Bool.{cases_lt}
use Rattle.std.proofs.lemmas.Nat.{div-add-mod', mod_below, pow-add}
use Rattle.std.proofs.lemmas.Nat.Bits.{bit_at-trailing_zeros}
use Rattle.std.proofs.lemmas.Nat.Gcd.{dvd_refl, dvd_trans, dvd_of_mod-eq-zero, mod-eq-zero_of_dvd, IsGcd-swap, IsGcd-from_sub}
use Rattle.std.proofs.Math.Nat.{zero-lt-suc, pow-suc, dvd-mul_right_of_dvd, mul-dvd-mul_right, dvd_of_mul-dvd-mul_right}
use Rattle.std.proofs.Math.Nat.{dvd-mul_left, div-mul_cancel, div-div-eq-div-mul, min-eq_left, min-eq_right}

-- a number is even or odd
even_or_odd : (n : ℕ) → (n % 2 ≡ 0) ⊎ (n % 2 ≡ 1)
even_or_odd n = of (n % 2) (mod_below n 2 (zero-lt-suc 1))
  where
    of : (r : ℕ) → r < 2 → (r ≡ 0) ⊎ (r ≡ 1)
    of zero h = inl refl
    of (suc zero) h = inr refl
    of (suc (suc r)) h = absurd (omega arith)

-- what divides an odd number is odd
odd_divisor : (d x : ℕ) → x % 2 ≡ 1 → d ∣ x → d % 2 ≡ 1
odd_divisor d x odd h = elim (even_or_odd d) [
  | inl even ↦ let e = mod-eq-zero_of_dvd 2 (dvd_trans 2 (dvd_of_mod-eq-zero 2 even) h) in absurd (omega arith)
  | inr e ↦ e
]

-- an odd divisor of twice a number divides the number
divides_half : (d y : ℕ) → d % 2 ≡ 1 → d ∣ y * 2 → d ∣ y
divides_half d y odd h =
    let q = y * 2 / d in
    let whole : q * d ≡ y * 2 = div-mul_cancel d h in
    let e : d / 2 * 2 + 1 ≡ d = omega (arith, div-add-mod' d 2) in
    elim (even_or_odd q) [
      | inl even ↦
          let f : q / 2 * 2 ≡ q = omega (arith, div-add-mod' q 2) in
          subst (λ x. d ∣ x) (omega (arith, ap (λ x. x * d) f)) (dvd-mul_left d (q / 2))
      | inr rest ↦
          let f : q / 2 * 2 + 1 ≡ q = omega (arith, div-add-mod' q 2) in
          absurd (omega (arith, ap (λ x. x * d) f, ap (λ x. q / 2 * 2 * x) e))
    ]

-- twice a number shares no more with an odd one
gcd_twice : (x y g : ℕ) → x % 2 ≡ 1 → IsGcd x y g → IsGcd x (y * 2) g
gcd_twice x y g odd h = (h.0, dvd-mul_right_of_dvd g h.1 2, λ d i j. h.2 d i (divides_half d y (odd_divisor d x odd i) j))

-- and no more powers of two do
gcd_powers : (x y g k : ℕ) → x % 2 ≡ 1 → IsGcd x y g → IsGcd x (y * 2 ^ k) g
gcd_powers x y g zero odd h = subst (λ z. IsGcd x z g) (omega arith) h
gcd_powers x y g (suc k) odd h =
    subst (λ z. IsGcd x z g) (omega (arith, ap (λ z. y * z) (pow-suc 2 k))) (gcd_twice x (y * 2 ^ k) g odd (gcd_powers x y g k odd h))

-- twice both numbers share twice as much
gcd_of_twice : (x y g : ℕ) → IsGcd x y g → IsGcd (x * 2) (y * 2) (g * 2)
gcd_of_twice x y g h = (
  mul-dvd-mul_right g h.0 2,
  mul-dvd-mul_right g h.1 2,
  λ d i j. elim (even_or_odd d) [
    | inl even ↦
        let e : d / 2 * 2 ≡ d = omega (arith, div-add-mod' d 2) in
        let half : (z : ℕ) → d ∣ z * 2 → d / 2 ∣ z = λ z k. dvd_of_mul-dvd-mul_right (d / 2) (zero-lt-suc 1) (subst (λ n. n ∣ z * 2) (sym e) k) in
        subst (λ n. n ∣ g * 2) e (mul-dvd-mul_right (d / 2) (h.2 (d / 2) (half x i) (half y j)) 2)
    | inr odd ↦ dvd-mul_right_of_dvd d (h.2 d (divides_half d x odd i) (divides_half d y odd j)) 2
  ],
)

gcd_of_powers : (x y g k : ℕ) → IsGcd x y g → IsGcd (x * 2 ^ k) (y * 2 ^ k) (g * 2 ^ k)
gcd_of_powers x y g zero h =
    let one : (n : ℕ) → n ≡ n * 2 ^ 0 = λ n. omega arith in
    subst (λ z. IsGcd (x * 2 ^ 0) (y * 2 ^ 0) z) (one g) (subst (λ z. IsGcd (x * 2 ^ 0) z g) (one y) (subst (λ z. IsGcd z y g) (one x) h))
gcd_of_powers x y g (suc k) h =
    let more : (n : ℕ) → n * 2 ^ k * 2 ≡ n * 2 ^ suc k = λ n. omega (arith, ap (λ z. n * z) (pow-suc 2 k)) in
    subst (λ z. IsGcd (x * 2 ^ suc k) (y * 2 ^ suc k) z) (more g)
    (subst (λ z. IsGcd (x * 2 ^ suc k) z (g * 2 ^ k * 2)) (more y)
    (subst (λ z. IsGcd z (y * 2 ^ k * 2) (g * 2 ^ k * 2)) (more x) (gcd_of_twice _ _ _ (gcd_of_powers x y g k h))))

-- the common divisor of two numbers from that of their odd parts, where the first has no more factors of two
gcd_by_first : (a b p q g i j : ℕ) → i ≤ j → p * 2 ^ i ≡ a → q * 2 ^ j ≡ b → p % 2 ≡ 1 → IsGcd p q g → IsGcd a b (g * 2 ^ i)
gcd_by_first a b p q g i j l e f odd h =
    let powers : 2 ^ (j - i) * 2 ^ i ≡ 2 ^ j = sym (pow-add 2 (j - i) i) ∙ ap (λ n. 2 ^ n) (omega arith) in
    let second : q * 2 ^ (j - i) * 2 ^ i ≡ b = omega (arith, ap (λ n. q * n) powers, f) in
    subst (λ z. IsGcd z b (g * 2 ^ i)) e
    (subst (λ z. IsGcd (p * 2 ^ i) z (g * 2 ^ i)) second (gcd_of_powers p (q * 2 ^ (j - i)) g i (gcd_powers p q g (j - i) odd h)))

-- the common divisor of two numbers from that of their odd parts
pub gcd_by_odd_parts : (a b p q g i j : ℕ) → p * 2 ^ i ≡ a → q * 2 ^ j ≡ b → p % 2 ≡ 1 → q % 2 ≡ 1 → IsGcd p q g → IsGcd a b (g * 2 ^ min i j)
gcd_by_odd_parts a b p q g i j e f first second h = of (cases_lt i j)
  where
    of : (i < j) ⊎ (j ≤ i) → IsGcd a b (g * 2 ^ min i j)
    of (inl l) = let le : i ≤ j = omega arith in subst (λ k. IsGcd a b (g * 2 ^ k)) (sym (min-eq_left le)) (gcd_by_first a b p q g i j le e f first h)
    of (inr l) = subst (λ k. IsGcd a b (g * 2 ^ k)) (sym (min-eq_right l)) (IsGcd-swap b a _ (gcd_by_first b a q p g j i l f e second (IsGcd-swap p q g h)))

by_difference : (x y p k g : ℕ) → y ≤ x → y % 2 ≡ 1 → p * 2 ^ k ≡ x - y → IsGcd p y g → IsGcd x y g
by_difference x y p k g l odd e h =
    IsGcd-from_sub x y g l (subst (λ z. IsGcd z y g) e (IsGcd-swap y (p * 2 ^ k) g (gcd_powers y p g k odd (IsGcd-swap p y g h))))

-- the common divisor of two odd numbers is that of the odd part of what they are apart and the lesser one
pub gcd_by_apart : (x y p m k g : ℕ) → x % 2 ≡ 1 → y % 2 ≡ 1 → p * 2 ^ k ≡ abs_diff x y → m ≡ min x y → IsGcd p m g → IsGcd x y g
gcd_by_apart x y p m k g first second e f h = of (cases_lt x y)
  where
    of : (x < y) ⊎ (y ≤ x) → IsGcd x y g
    of (inl l) =
        let lesser : m ≡ x = f ∙ min-eq_left (omega arith) in
        IsGcd-swap y x g (by_difference y x p k g (omega arith) first (omega (arith, e)) (subst (λ z. IsGcd p z g) lesser h))
    of (inr l) =
        let lesser : m ≡ y = f ∙ min-eq_right l in
        by_difference x y p k g l second (omega (arith, e)) (subst (λ z. IsGcd p z g) lesser h)

-- the lesser of two odd numbers is odd
pub lesser_odd : (x y m : ℕ) → x % 2 ≡ 1 → y % 2 ≡ 1 → m ≡ min x y → m % 2 ≡ 1
lesser_odd x y m first second e = of (cases_lt x y)
  where
    of : (x < y) ⊎ (y ≤ x) → m % 2 ≡ 1
    of (inl l) = ap (λ n. n % 2) (e ∙ min-eq_left (omega arith)) ∙ first
    of (inr l) = ap (λ n. n % 2) (e ∙ min-eq_right l) ∙ second

-- a number shares itself with itself
pub gcd_of_same : (x y : ℕ) → x ≡ y → IsGcd x y x
gcd_of_same x y e = subst (λ z. IsGcd x z x) e (dvd_refl x, dvd_refl x, λ d i j. i)

-- below its lowest 1 a number has no digits
low_digits : (n i : ℕ) → ((j : ℕ) → j < i → bit_at n j ≡ 0) → n / 2 ^ i * 2 ^ i ≡ n
low_digits n zero h = omega arith
low_digits n (suc i) h =
    let more = low_digits n i (λ j l. h j (omega arith)) in
    let even : n / 2 ^ i % 2 ≡ 0 = h i (omega arith) in
    let step : n / 2 ^ i / 2 ≡ n / 2 ^ suc i = div-div-eq-div-mul n (2 ^ i) 2 ∙ ap (λ z. n / z) (sym (pow-suc 2 i)) in
    let half : n / 2 ^ suc i * 2 ≡ n / 2 ^ i = omega (arith, div-add-mod' (n / 2 ^ i) 2, step) in
    omega (arith, ap (λ z. n / 2 ^ suc i * z) (pow-suc 2 i), ap (λ z. z * 2 ^ i) half, more)

-- a number and its odd part
pub odd_part_is : (n : ℕ) → 0 < n → n < 2 ^ 64 → (n / 2 ^ trailing_zeros w64 n % 2 ≡ 1) × (n / 2 ^ trailing_zeros w64 n * 2 ^ trailing_zeros w64 n ≡ n)
odd_part_is n some fits =
    let h = bit_at-trailing_zeros w64 n some fits in
    (h.1, low_digits n (trailing_zeros w64 n) h.2)
