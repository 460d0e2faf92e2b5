-- A number as one fraction, and that fraction in units, both in lowest terms.
use Rattle.std.proofs.Common.{◌≡◌, ℕ, zero, suc, ℤ, pos, negsuc, Bool, true, false, ◌+◌, ◌*◌, ◌+ℤ◌}
use Rattle.std.proofs.Common.{◌*ℤ◌, ◌^◌, ◌/◌, ◌<◌, ◌<ℤ◌, ◌≤ℤ◌, arith, sym, subst, ap, refl, nat_abs}
use Rattle.std.specs.Int.{IsGcd}
use Rattle.std.specs.Int.RustNames.{unsigned_abs}
use Rattle.std.proofs.lemmas.Int.{ints}
use Rattle.std.proofs.lemmas.Nat.Gcd.{dvd_trans}
use Rattle.std.proofs.Math.Nat.{dvd-mul_right_of_dvd, div-mul_cancel, mul-pos, one-le-pow, eq-zero_of_zero-dvd}
use Prim.Native.Nat.{◌∣◌}
use lib.IntN.{neg_ℤ}
use Rattle.rational.specs.Rational.{Rational, ◌≈◌, mixed, ratio, fraction, whole}
use Rattle.rational.specs.Time.{IsLowest, Divides}
use Rattle.rational.proofs.Order.{same_sym, same_trans}
use Rattle.rational.proofs.Mixed.{neg_parts, mul_parts}
use Rattle.rational.proofs.Lowest.{coprime, dvd_of_Divides, lowest_of_gcd, divides_other}
use Rattle.answer_lines.specs.Numbers.{signed, IsInUnits}

-- a number below 0, by its size
pub mixed_below : (w : ℤ) (r d n : ℕ) (p q : 0 < d) → w <ℤ pos 0 → n + r ≡ unsigned_abs w * d → mixed w r d p ≈ ratio (neg_ℤ (pos n)) d q
mixed_below (pos v) r d n p q h e = absurd (omega (arith, ints))
mixed_below (negsuc v) r d n p q h e = record { same = omega (arith, ap (λ x. x * d) e, ap (λ x. x * d) (neg_parts n)) }

-- the sum of the whole parts and the rest, below 0
pub sum_below : (w : ℤ) (r d n : ℕ) → w <ℤ pos 0 → n + r ≡ unsigned_abs w * d → w *ℤ pos d +ℤ pos r ≡ neg_ℤ (pos n)
sum_below (pos v) r d n h e = absurd (omega (arith, ints))
sum_below (negsuc v) r d n h e = omega (arith, ints)

-- and not below 0
pub sum_above : (w : ℤ) (r d n : ℕ) → pos 0 ≤ℤ w → n ≡ unsigned_abs w * d + r → w *ℤ pos d +ℤ pos r ≡ pos n
sum_above (pos v) r d n h e = omega (arith, ints)
sum_above (negsuc v) r d n h e = absurd (omega (arith, ints))

-- what divides a number that is not 0 is not 0
pos_of_dvd : (k m : ℕ) → 0 < m → k ∣ m → 0 < k
pos_of_dvd zero m p h = let e = eq-zero_of_zero-dvd h in omega arith
pos_of_dvd (suc k) m p h = omega arith

nat_abs-signed : (negative : Bool) (n : ℕ) → nat_abs (signed negative n) ≡ n
nat_abs-signed true zero = refl
nat_abs-signed _ _ = refl

-- a size and a power of ten without their common factor, and the denominator times what is left of the power, have no common factor
lowest_in_units : {size d t : ℕ} (negative : Bool) (n q g : ℕ) → 0 < t → 0 < q → IsLowest (signed negative size) d → IsGcd size t g
    → n * g ≡ size → q * g ≡ t → IsLowest (signed negative n) (d * q)
lowest_in_units {size} {d} {t} negative n q g p some low common e f = record {
  positive = mul-pos low.positive some;
  coprime = λ k a b.
      let in_n : k ∣ n = subst (λ x. k ∣ x) (nat_abs-signed negative n) (dvd_of_Divides k (nat_abs (signed negative n)) a) in
      let in_size : k ∣ size = subst (λ x. k ∣ x) e (dvd-mul_right_of_dvd k in_n g) in
      let apart : IsLowest (pos d) k = record {
        positive = pos_of_dvd k (d * q) (mul-pos low.positive some) (dvd_of_Divides k (d * q) b);
        coprime = λ j x y. coprime (signed negative size) d low j
            (subst (λ z. j ∣ z) (sym (nat_abs-signed negative size)) (dvd_trans j (dvd_of_Divides j k y) in_size)) (dvd_of_Divides j d x);
      } in
      let in_q : k ∣ q = divides_other (pos d) k q some apart (dvd_of_Divides k (d * q) b) in
      coprime (pos n) q (lowest_of_gcd size t g n q p common e f some) k in_n in_q;
}

-- the fraction without the common factor is the same number of units
same_in_units : (negative : Bool) (size d t n q g : ℕ) (p : 0 < d) (r : 0 < d * q) → n * g ≡ size → q * g ≡ t
    → ratio (signed negative size) d p ≈ ratio (signed negative n *ℤ pos t) (d * q) r
same_in_units true size d t n q g p r e f = record {
  same = omega (
    arith,
    ap (λ x. x * (d * q)) (neg_parts size),
    ap (λ x. x * (t * d)) (neg_parts n),
    ap (λ x. x * d) (mul_parts (neg_ℤ (pos n)) (pos t)),
    ap (λ x. x * (d * q)) e,
    ap (λ x. x * (n * d)) f,
  );
}
same_in_units false size d t n q g p r e f =
    record { same = omega (arith, ap (λ x. x * d) (mul_parts (pos n) (pos t)), ap (λ x. x * (d * q)) e, ap (λ x. x * (n * d)) f) }

-- a factor of a number that is not 0
factor_pos : (q g t : ℕ) → 0 < t → q * g ≡ t → 0 < q
factor_pos zero g t p e = absurd (omega arith)
factor_pos (suc q) g t p e = omega arith

-- a fraction in lowest terms, in units
pub is_in_units : (digits : ℕ) (v : Rational) (negative : Bool) (size d g : ℕ) (p : 0 < d) → v ≈ ratio (signed negative size) d p
    → IsLowest (signed negative size) d → (negative ≡ true → 0 < size)
    → IsGcd size (10 ^ digits) g → IsInUnits digits v negative (size / g) (d * (10 ^ digits / g))
is_in_units digits v negative size d g p same low some common =
    let tens : 0 < 10 ^ digits = one-le-pow digits 10 (omega arith) in
    let e = div-mul_cancel g common.0 in
    let f = div-mul_cancel g common.1 in
    let rest : 0 < 10 ^ digits / g = factor_pos (10 ^ digits / g) g (10 ^ digits) tens f in
    record {
      lowest = lowest_in_units negative (size / g) (10 ^ digits / g) g tens rest low common e f;
      same = record { same = (same_trans same (same_in_units negative size d (10 ^ digits) (size / g) (10 ^ digits / g) g p (mul-pos p rest) e f)).same };
      unsigned_zero = λ h z. let k = factor_pos (size / g) g size (some h) e in absurd (omega arith);
    }

-- a fraction in lowest terms, in units of one tick
pub is_in_ticks : (v : Rational) (negative : Bool) (size d : ℕ) (p : 0 < d) → v ≈ ratio (signed negative size) d p
    → IsLowest (signed negative size) d → (negative ≡ true → 0 < size)
    → IsInUnits 0 v negative size d
is_in_ticks v negative size d p same low some = record {
  lowest = low;
  same = record { same = (subst (λ z. v ≈ ratio z d p) (times_one (signed negative size)) same).same };
  unsigned_zero = λ h z. let k = some h in absurd (omega arith);
}
  where
    times_one : (z : ℤ) → z ≡ z *ℤ pos (10 ^ 0)
    times_one z = omega (arith, ints)

-- the sign changes no common factor
lowest_signed : (negative : Bool) (n d : ℕ) → IsLowest (pos n) d → IsLowest (signed negative n) d
lowest_signed negative n d low = record {
  positive = low.positive;
  coprime = λ k a b. low.coprime k (subst (λ x. Divides k x) (nat_abs-signed negative n) a) b;
}

-- a quotient without a common factor of its size and of its denominator in units is the same number of units
same_quotient : (negative : Bool) (size d t n q g : ℕ) (p : 0 < d) (r : 0 < q) → n * g ≡ size → q * g ≡ d * t
    → ratio (signed negative size) d p ≈ ratio (signed negative n *ℤ pos t) q r
same_quotient true size d t n q g p r e f = record {
  same = omega (
    arith,
    ap (λ x. x * q) (neg_parts size),
    ap (λ x. x * (t * d)) (neg_parts n),
    ap (λ x. x * d) (mul_parts (neg_ℤ (pos n)) (pos t)),
    ap (λ x. x * q) e,
    ap (λ x. x * n) f,
  );
}
same_quotient false size d t n q g p r e f = record { same = omega (arith, ap (λ x. x * d) (mul_parts (pos n) (pos t)), ap (λ x. x * q) e, ap (λ x. x * n) f) }

-- a quotient, in units
pub quotient_units : (digits : ℕ) (v : Rational) (negative : Bool) (size d g : ℕ) (p : 0 < d)
    → v ≈ ratio (signed negative size) d p → (negative ≡ true → 0 < size)
    → IsGcd size (d * 10 ^ digits) g → IsInUnits digits v negative (size / g) (d * 10 ^ digits / g)
quotient_units digits v negative size d g p same some common =
    let tens : 0 < 10 ^ digits = one-le-pow digits 10 (omega arith) in
    let all : 0 < d * 10 ^ digits = mul-pos p tens in
    let e = div-mul_cancel g common.0 in
    let f = div-mul_cancel g common.1 in
    let rest : 0 < d * 10 ^ digits / g = factor_pos (d * 10 ^ digits / g) g (d * 10 ^ digits) all f in
    record {
      lowest = lowest_signed negative (size / g) (d * 10 ^ digits / g)
          (lowest_of_gcd size (d * 10 ^ digits) g (size / g) (d * 10 ^ digits / g) all common e f rest);
      same = record { same = (same_trans same (same_quotient negative size d (10 ^ digits) (size / g) (d * 10 ^ digits / g) g p rest e f)).same };
      unsigned_zero = λ h z. let k = factor_pos (size / g) g size (some h) e in absurd (omega arith);
    }

-- a fraction of whole numbers as a ratio
pub fraction_is : (num den : ℤ) (negative : Bool) (size d : ℕ) (p : 0 < d) → num ≡ signed negative size → den ≡ pos d
    → fraction num den ≈ ratio (signed negative size) d p
fraction_is num den negative size zero p e f = absurd (omega arith)
fraction_is num den negative size (suc k) p e f = subst (λ z. fraction num z ≈ ratio (signed negative size) (suc k) p) (sym f)
    (subst (λ z. fraction z (pos (suc k)) ≈ ratio (signed negative size) (suc k) p) (sym e) (record { same = refl }))

-- units of one number are those of another that is the same
pub units_same : (digits : ℕ) (v w : Rational) (negative : Bool) (size den : ℕ) → v ≈ w → IsInUnits digits v negative size den
    → IsInUnits digits w negative size den
units_same digits v w negative size den e u = record { lowest = u.lowest; same = same_trans (same_sym e) u.same; unsigned_zero = u.unsigned_zero }

-- a quotient that goes up is a whole number
pub whole_is : (negative : Bool) (size d n : ℕ) (p : 0 < d) → size ≡ n * d → ratio (signed negative size) d p ≈ whole (signed negative n)
whole_is false size d n p e = record { same = omega (arith, e) }
whole_is true size d n p e = record { same = omega (arith, e, neg_parts size, neg_parts n, ap (λ x. x * d) (neg_parts n)) }
