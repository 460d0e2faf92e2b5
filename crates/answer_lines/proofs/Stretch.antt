-- Numbers times K.
use Rattle.std.proofs.Common.{◌≡◌, ℕ, zero, suc, ◌+◌, ◌*◌, ◌<◌, ◌≤◌, refl, arith, ℤ, pos, negsuc}
use Rattle.std.specs.Prelude.{neg_ℤ, ◌*ℤ◌}
use Rattle.std.proofs.Math.Nat.{mul-le-mul_left, le_of_mul-le-mul_left}
use Rattle.rational.specs.Rational.{part_above, part_below}
use Rattle.rational.specs.Time.{Rational, ◌≤ʳ◌, ◌≈◌, ratio}
use Rattle.rational.proofs.Order.{same_of_le, le_of_same, ge_of_same}

-- K times the number
abbrev pub stretch : ℕ → Rational → Rational
stretch K t = record { up = K * t.up; down = K * t.down; den = t.den; positive = t.positive }

-- the order stays
pub stretch_le : {t u : Rational} (K : ℕ) → t ≤ʳ u → stretch K t ≤ʳ stretch K u
stretch_le K h = record { le = let m = mul-le-mul_left K h.le in omega (arith, m) }

-- and the other way
pub le_back : {t u : Rational} (K : ℕ) → 0 < K → stretch K t ≤ʳ stretch K u → t ≤ʳ u
le_back {t} {u} K p h = record {
  le = le_of_mul-le-mul_left (let e : K * (t.up * u.den + u.down * t.den) ≤ K * (u.up * t.den + t.down * u.den) = omega (arith, h.le) in e) p;
}

-- two numbers are the same where K times the numbers are
pub same_back : {t u : Rational} (K : ℕ) → 0 < K → stretch K t ≈ stretch K u → t ≈ u
same_back K p h = same_of_le (le_back K p (le_of_same h)) (le_back K p (ge_of_same h))

-- a number of ticks below 0 has nothing above 0
pub neg_above : (n : ℕ) → part_above (neg_ℤ (pos n)) ≡ 0
neg_above zero = refl
neg_above (suc n) = refl

-- and is so far below 0
pub neg_below : (n : ℕ) → part_below (neg_ℤ (pos n)) ≡ n
neg_below zero = refl
neg_below (suc n) = refl

-- the parts of a whole number times x
pub above_of : (z : ℤ) (x : ℕ) → part_above (z *ℤ pos x) ≡ part_above z * x
above_of (pos n) x = refl
above_of (negsuc n) x = let e = neg_above (suc n * x) in omega (arith, e)

-- and below nought
pub below_of : (z : ℤ) (x : ℕ) → part_below (z *ℤ pos x) ≡ part_below z * x
below_of (pos n) x = omega arith
below_of (negsuc n) x = neg_below (suc n * x)

-- a number times K
times_part : (x y K den u v : ℕ) → u ≡ x * K → v ≡ y * K → u * den + K * y * den ≡ K * x * den + v * den
times_part x y K den u v a b = rw (a, b) (omega arith)

-- a fraction whose numerator is times K is K times the fraction
pub ratio_of : (num : ℤ) (den : ℕ) (p : 0 < den) (K : ℕ) → ratio (num *ℤ pos K) den p ≈ stretch K (ratio num den p)
ratio_of num den p K = record { same = times_part (part_above num) (part_below num) K den _ _ (above_of num K) (below_of num K) }
