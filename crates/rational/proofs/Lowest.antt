-- Lowest terms: each number has one denominator in them.
use Rattle.std.proofs.Common.{◌≡◌, ℕ, ℤ, pos, negsuc, neg_ℤ, ◌-ℤ◌, zero, suc, ◌+ℤ◌, ◌*ℤ◌, ◌+◌, ◌*◌, ◌%◌, ◌/◌, ◌<◌}
use Rattle.std.proofs.Common.{◌≤◌, ◌⊎◌, inl, inr, arith, ap, sym, refl, ◌∙◌, subst, mul-pos, nat_abs, one-mul}
use Prim.Native.Nat.{◌∣◌}
use Rattle.std.specs.Int.{IsGcd}
use Rattle.std.proofs.lemmas.Int.{ints}
use Rattle.std.proofs.lemmas.Nat.{div-add-mod', mod_below, mod-mul-add}
use Rattle.std.proofs.lemmas.Nat.Gcd.{le_of_dvd, IsGcd-from_zero, IsGcd-from_mod, dvd_antisymm, mod-eq-zero_of_dvd}
use Rattle.std.proofs.Math.Nat.{dvd-mul_left, dvd-mul_right, zero-lt-suc, mul-lt-mul_of_pos_right, dvd-add_iff_left}
use Rattle.std.proofs.Math.Nat.{dvd-add_iff_right, dvd-mul_left_of_dvd, mul-dvd-mul_right, dvd_of_mul-dvd-mul_right}
use Rattle.std.proofs.Math.Nat.{eq-one_of_dvd-one, eq-zero_of_zero-dvd, div-mul_cancel}
use Rattle.rational.specs.Rational.{Rational, ◌≈◌, part_above, part_below, ratio, fraction, mixed}
use Rattle.rational.specs.Time.{Divides, IsLowest, HasDenominator}
use Rattle.rational.proofs.Order.{same_sym, same_trans}
use Rattle.rational.proofs.Mixed.{parts, neg_parts}

-- `Divides` and `∣` say one thing
pub dvd_of_Divides : (k n : ℕ) → Divides k n → k ∣ n
dvd_of_Divides k n h = ∣ h ∣₁

-- and the other way round
pub Divides_of_dvd : (k n : ℕ) → k ∣ n → Divides k n
Divides_of_dvd zero n h = (0, let e = eq-zero_of_zero-dvd h in omega arith)
Divides_of_dvd (suc k) n h = (n / suc k, let e = mod-eq-zero_of_dvd (suc k) h in omega (arith, div-add-mod' n (suc k)))

-- the divisors of two numbers in lowest terms
pub coprime : (num : ℤ) (den : ℕ) → IsLowest num den → (k : ℕ) → k ∣ nat_abs num → k ∣ den → k ≡ 1
coprime num den h k i j = h.coprime k (Divides_of_dvd k (nat_abs num) i) (Divides_of_dvd k den j)

-- the greatest common divisor with a number above 0 is above 0
pub gcd_pos : (n d g : ℕ) → 0 < d → IsGcd n d g → 0 < g
gcd_pos n d zero p h = let e = eq-zero_of_zero-dvd h.1 in omega arith
gcd_pos n d (suc g) p h = omega arith

-- what is left once the greatest common divisor is taken out is in lowest terms
pub lowest_of_gcd : (n d g r e : ℕ) → 0 < d → IsGcd n d g → r * g ≡ n → e * g ≡ d → 0 < e → IsLowest (pos r) e
lowest_of_gcd n d g r e p h i j q = record {
  positive = q;
  coprime = λ k a b.
      let divides : k * g ∣ g = h.2 (k * g) (subst (λ x. k * g ∣ x) i (mul-dvd-mul_right k (dvd_of_Divides k r a) g))
      (subst (λ x. k * g ∣ x) j (mul-dvd-mul_right k (dvd_of_Divides k e b) g)) in
      eq-one_of_dvd-one (dvd_of_mul-dvd-mul_right k (gcd_pos n d g p h) (subst (λ x. k * g ∣ x) (sym (one-mul g)) divides));
}

-- a fraction in lowest terms stays so when it is taken from 1
pub lowest_mirror : (r d s : ℕ) → s + r ≡ d → IsLowest (pos r) d → IsLowest (pos s) d
lowest_mirror r d s e h = record {
  positive = h.positive;
  coprime = λ k a b. coprime (pos r) d h k
      ((dvd-add_iff_right k {m = s} {n = r} (dvd_of_Divides k s a)).1 (subst (λ x. k ∣ x) (sym e) (dvd_of_Divides k d b))) (dvd_of_Divides k d b);
}

-- whole numbers are in lowest terms over 1
pub lowest_whole : (num : ℤ) → IsLowest num 1
lowest_whole num = record { positive = zero-lt-suc 0; coprime = λ k a b. eq-one_of_dvd-one (dvd_of_Divides k 1 b) }

-- n and m differ by a multiple of d, or add up to one
Tied : ℕ → ℕ → ℕ → Type 0
Tied n m d = ((x : ℕ) × (y : ℕ) × (n + x * d ≡ m + y * d)) ⊎ ((x : ℕ) × (n + m ≡ x * d))

dvd_tied : (n m d k : ℕ) → Tied n m d → k ∣ d → k ∣ m → k ∣ n
unfolding Tied
dvd_tied n m d k (inl h) i j =
    (dvd-add_iff_left k {m = n} {n = h.0 * d} (dvd-mul_left_of_dvd k i h.0)).1
    (subst (λ x. k ∣ x) (sym h.2) ((dvd-add_iff_left k {m = m} {n = h.1 * d} (dvd-mul_left_of_dvd k i h.1)).0 j))
dvd_tied n m d k (inr h) i j = (dvd-add_iff_left k {m = n} {n = m} j).1 (subst (λ x. k ∣ x) (sym h.1) (dvd-mul_left_of_dvd k i h.0))

tied_rest : (num w : ℤ) (r d : ℕ) → num ≡ w *ℤ pos d +ℤ pos r → Tied r (nat_abs num) d
unfolding Tied
tied_rest (pos n) (pos v) r d e = inl (v, 0, omega (arith, ints))
tied_rest (pos n) (negsuc v) r d e = inl (0, suc v, omega (arith, ints))
tied_rest (negsuc m) (pos v) r d e = absurd (omega (arith, ints))
tied_rest (negsuc m) (negsuc v) r d e = inr (suc v, omega (arith, ints))

-- a whole part takes nothing away from lowest terms
pub lowest_add : (w : ℤ) (r d : ℕ) → IsLowest (pos r) d → IsLowest (w *ℤ pos d +ℤ pos r) d
lowest_add w r d h = record {
  positive = h.positive;
  coprime = λ k a b.
      let divides : k ∣ d = dvd_of_Divides k d b in
      coprime (pos r) d h k (dvd_tied r (nat_abs (w *ℤ pos d +ℤ pos r)) d k (tied_rest (w *ℤ pos d +ℤ pos r) w r d refl) divides
      (dvd_of_Divides k (nat_abs (w *ℤ pos d +ℤ pos r)) a)) divides;
}

-- the denominator of a number with a whole part and a rest in lowest terms
pub denominator_of_mixed : (w : ℤ) (r d : ℕ) (p : 0 < d) → IsLowest (pos r) d → HasDenominator (mixed w r d p) d
denominator_of_mixed w r d p h = (w *ℤ pos d +ℤ pos r, lowest_add w r d h, record { same = omega (arith, ap (λ n. n * d) step) })
  where
    step : part_above w * d + r + part_below (w *ℤ pos d +ℤ pos r) ≡ part_above (w *ℤ pos d +ℤ pos r) + part_below w * d
    step = omega (arith, parts)

-- a number has one denominator in lowest terms, whatever its pair
pub denominator_same : {a b : Rational} (d : ℕ) → a ≈ b → HasDenominator a d → HasDenominator b d
denominator_same d e h = (h.0, h.1, same_trans (same_sym e) h.2)

mod_scaled : (a b e : ℕ) → 0 < b → 0 < e → (a * e) % (b * e) ≡ (a % b) * e
mod_scaled a b e p q =
    let split : a / b * (b * e) + a % b * e ≡ a * e = omega (arith, ap (λ n. n * e) (div-add-mod' a b)) in
    ap (λ n. n % (b * e)) (sym split) ∙ mod-mul-add (a / b) (b * e) (a % b * e) (mul-lt-mul_of_pos_right (mod_below a b p) q)

-- a greatest common divisor, which stays one when all is scaled
scaled_gcd : (most a b : ℕ) → b ≤ most → (g : ℕ) × IsGcd a b g × ((e : ℕ) → 0 < e → IsGcd (a * e) (b * e) (g * e))
scaled_gcd most a zero h = (a, IsGcd-from_zero a zero refl, λ e p. IsGcd-from_zero (a * e) (zero * e) (omega arith))
scaled_gcd zero a (suc b) h = absurd (omega arith)
scaled_gcd (suc most) a (suc b) h =
    let below = mod_below a (suc b) (zero-lt-suc b) in
    let r = scaled_gcd most (suc b) (a % suc b) (omega arith) in (
      r.0,
      IsGcd-from_mod a (suc b) r.0 r.1,
      λ e p. IsGcd-from_mod (a * e) (suc b * e) (r.0 * e)
          (subst (λ x. IsGcd (suc b * e) x (r.0 * e)) (sym (mod_scaled a (suc b) e (zero-lt-suc b) p)) (r.2 e p)),
    )

-- what divides a product and is prime to one factor divides the other
pub divides_other : (num : ℤ) (d e : ℕ) → 0 < e → IsLowest num d → d ∣ nat_abs num * e → d ∣ e
divides_other num d e p low h =
    let n = nat_abs num in
    let r = scaled_gcd d n d (omega arith) in
    let one : r.0 ≡ 1 = coprime num d low r.0 r.1.0 r.1.1 in
    subst (λ x. d ∣ x) (ap (λ g. g * e) one ∙ one-mul e) ((r.2 e p).2 d h (dvd-mul_right d e))

one_den : (n m : ℤ) (d e : ℕ) → IsLowest n d → IsLowest m e → nat_abs n * e ≡ nat_abs m * d → d ≡ e
one_den n m d e low other h =
    dvd_antisymm
    (divides_other n d e other.positive low (subst (λ x. d ∣ x) (sym h) (dvd-mul_left d (nat_abs m))))
    (divides_other m e d low.positive other (subst (λ x. e ∣ x) h (dvd-mul_left e (nat_abs n))))

sizes : (n m : ℤ) (d e : ℕ) (p : 0 < d) (q : 0 < e) → ratio n d p ≈ ratio m e q → nat_abs n * e ≡ nat_abs m * d
sizes (pos n) (pos m) d e p q h = omega (arith, h.same)
sizes (pos n) (negsuc m) d e p q h = absurd (omega (arith, h.same, mul-pos (zero-lt-suc m) p))
sizes (negsuc n) (pos m) d e p q h = absurd (omega (arith, h.same, mul-pos (zero-lt-suc n) q))
sizes (negsuc n) (negsuc m) d e p q h = omega (arith, h.same)

-- so two denominators in lowest terms of one number are one
pub denominator_unique : {a b : Rational} (d e : ℕ) → a ≈ b → HasDenominator a d → HasDenominator b e → d ≡ e
denominator_unique d e s h k = one_den h.0 k.0 d e h.1 k.1 (sizes h.0 k.0 d e h.1.positive k.1.positive (same_trans (same_sym h.2) (same_trans s k.2)))

-- the denominator in lowest terms divides each other one
pub denominator_divides : (num : ℤ) (k d : ℕ) (p : 0 < k) → HasDenominator (ratio num k p) d → d ∣ k
denominator_divides num k d p h = divides_other h.0 d k p h.1 (subst (λ x. d ∣ x) (sizes num h.0 k d p h.1.positive h.2) (dvd-mul_left d (nat_abs num)))

pub record Reduced (n k : ℕ) : Type 0 where
  -- the numerator in lowest terms
  pub top : ℕ
  -- the denominator in lowest terms
  pub bottom : ℕ
  -- what both were divided by
  pub factor : ℕ
  -- the numerator is a multiple of it
  pub top_is : top * factor ≡ n
  -- so is the denominator, by the same factor
  pub bottom_is : bottom * factor ≡ k
  -- nothing but 1 divides both
  pub lowest : IsLowest (pos top) bottom

reduced : (n k : ℕ) → 0 < k → Reduced n k
reduced n k p =
    let r = scaled_gcd k n k (omega arith) in
    let top = div-mul_cancel r.0 r.1.0 in
    let bottom = div-mul_cancel r.0 r.1.1 in
    record {
      top = n / r.0;
      bottom = k / r.0;
      factor = r.0;
      top_is = top;
      bottom_is = bottom;
      lowest = lowest_of_gcd n k r.0 (n / r.0) (k / r.0) p r.1 top bottom (positive (k / r.0) r.0 bottom);
    }
  where
    positive : (e g : ℕ) → e * g ≡ k → 0 < e
    positive zero g h = absurd (omega arith)
    positive (suc e) g h = omega arith

lowest_negated : (n d : ℕ) → IsLowest (pos n) d → IsLowest (neg_ℤ (pos n)) d
lowest_negated n d h = record { positive = h.positive; coprime = λ k i j. h.coprime k (subst (λ x. Divides k x) size i) j }
  where
    size : nat_abs (neg_ℤ (pos n)) ≡ n
    size = omega (arith, ints)

-- each fraction has a denominator in lowest terms
of_ratio : (z : ℤ) (k : ℕ) (p : 0 < k) → (d : ℕ) × HasDenominator (ratio z k p) d
of_ratio (pos n) k p =
    let r = reduced n k p in
    (r.bottom, (pos r.top, r.lowest, record { same = omega (arith, ap (λ x. x * r.bottom) r.top_is, ap (λ x. r.top * x) r.bottom_is) }))
of_ratio (negsuc n) k p =
    let r = reduced (suc n) k p in (
      r.bottom,
      (
        neg_ℤ (pos r.top),
        lowest_negated r.top r.bottom r.lowest,
        record { same = omega (arith, ap (λ x. x * r.bottom) r.top_is, ap (λ x. r.top * x) r.bottom_is, ap (λ x. x * k) (neg_parts r.top)) },
      ),
    )

-- and so has each number
pub has_denominator : (a : Rational) → (d : ℕ) × HasDenominator a d
has_denominator a = let h = of_ratio (pos a.up -ℤ pos a.down) a.den a.positive in (h.0, denominator_same h.0 whole_of h.1)
  where
    whole_of : ratio (pos a.up -ℤ pos a.down) a.den a.positive ≈ a
    whole_of = record { same = omega (arith, ap (λ n. n * a.den) step) }
      where
        step : part_above (pos a.up -ℤ pos a.down) + a.down ≡ a.up + part_below (pos a.up -ℤ pos a.down)
        step = omega (arith, parts)

-- a fraction in lowest terms has no larger denominator
pub denominator_at_most : (num den : ℤ) (k d : ℕ) → HasDenominator (fraction num den) d → den ≡ pos k → 0 < k → d ≤ k
denominator_at_most num den zero d h e p = absurd (omega arith)
denominator_at_most num den (suc k) d h e p =
    le_of_dvd p (denominator_divides num (suc k) d (zero-lt-suc k) (subst (λ n. HasDenominator (fraction num n) d) e h))
