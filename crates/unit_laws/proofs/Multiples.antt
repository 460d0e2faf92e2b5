-- Numbers times K, and their K-th parts.
use Rattle.std.proofs.Common.{◌≡◌, ℕ, suc, ◌+◌, ◌*◌, ◌<◌, ◌≤◌, refl, arith, ℤ, pos, negsuc, IsTrue}
use Rattle.std.specs.Prelude.{◌*ℤ◌}
use Rattle.std.proofs.Math.Nat.{mul-pos, mul-le-mul_left, le_of_mul-le-mul_left, mul-lt-mul_of_pos_left, lt_of_mul-lt-mul_left}
use Rattle.rational.specs.Rational.{part_above, part_below}
use Rattle.rational.specs.Time.{Rational, ◌<ʳ◌, ◌≈◌, whole, times, add}
use Rattle.rational.proofs.Order.{same_of_le, le_of_same, ge_of_same}
use Rattle.stl_syntax.specs.Truth.{compares}
use Rattle.stl_syntax.specs.declared.rel.Rel.{Rel}
use Rattle.stl_syntax.specs.declared.rel.Rel.TheVariants.{AtLeast, Above, AtMost, Below}
pub use Rattle.answer_lines.proofs.Stretch.{stretch, stretch_le, le_back, same_back, neg_above, neg_below, above_of, below_of}

-- the K-th part of the number
abbrev pub shrink : (K : ℕ) → 0 < K → Rational → Rational
shrink K p t = record { up = t.up; down = t.down; den = K * t.den; positive = mul-pos p t.positive }

-- K times two numbers are ordered as the numbers
pub stretch_lt : {t u : Rational} (K : ℕ) → 0 < K → t <ʳ u → stretch K t <ʳ stretch K u
stretch_lt K p h = record { lt = let m = mul-lt-mul_of_pos_left h.lt p in omega (arith, m) }

-- two ways to write one number are, times K, one number
pub stretch_same : {t u : Rational} (K : ℕ) → t ≈ u → stretch K t ≈ stretch K u
stretch_same K h = same_of_le (stretch_le K (le_of_same h)) (stretch_le K (ge_of_same h))

-- two numbers are ordered as K times the numbers
pub lt_back : {t u : Rational} (K : ℕ) → stretch K t <ʳ stretch K u → t <ʳ u
lt_back {t} {u} K h = record {
  lt = lt_of_mul-lt-mul_left K (let e : K * (t.up * u.den + u.down * t.den) < K * (u.up * t.den + t.down * u.den) = omega (arith, h.lt) in e);
}

-- a number is K times its K-th part
pub stretch-shrink : (K : ℕ) (p : 0 < K) (t : Rational) → stretch K (shrink K p t) ≈ t
stretch-shrink K p t = record { same = omega arith }

-- sums and products
pub add_stretch : (K : ℕ) (a b : Rational) → add (stretch K a) (stretch K b) ≈ stretch K (add a b)
add_stretch K a b = record { same = omega arith }

-- a coefficient of K times a number is K times the product
pub times_stretch : (K : ℕ) (c : ℤ) (a : Rational) → times c (stretch K a) ≈ stretch K (times c a)
times_stretch K c a = record { same = omega arith }

-- the parts of a product
pub above-times : (K : ℕ) (z : ℤ) → part_above (pos K *ℤ z) ≡ K * part_above z
above-times K (pos n) = refl
above-times K (negsuc n) = let e = neg_above (K * suc n) in omega (arith, e)

-- the part below nought of K times a whole number is K times its part
pub below-times : (K : ℕ) (z : ℤ) → part_below (pos K *ℤ z) ≡ K * part_below z
below-times K (pos n) = omega arith
below-times K (negsuc n) = neg_below (K * suc n)

-- K times a whole number is whole
pub whole_stretch : (K : ℕ) (z : ℤ) → whole (pos K *ℤ z) ≈ stretch K (whole z)
whole_stretch K z = let e = above-times K z in let f = below-times K z in record { same = omega (arith, e, f) }

-- the comparison with 0
pub compares_stretch : (K : ℕ) → 0 < K → (rel : Rel) (x : Rational) → IsTrue (compares rel x) → IsTrue (compares rel (stretch K x))
compares_stretch K p AtLeast x h = let k : x.down ≤ x.up = grind arith in let l = mul-le-mul_left K k in grind arith
compares_stretch K p Above x h = let k : x.down < x.up = grind arith in let l = mul-lt-mul_of_pos_left k p in grind arith
compares_stretch K p AtMost x h = let k : x.up ≤ x.down = grind arith in let l = mul-le-mul_left K k in grind arith
compares_stretch K p Below x h = let k : x.up < x.down = grind arith in let l = mul-lt-mul_of_pos_left k p in grind arith

-- a comparison with nought is that of K times the number
pub compares_back : (K : ℕ) → 0 < K → (rel : Rel) (x : Rational) → IsTrue (compares rel (stretch K x)) → IsTrue (compares rel x)
compares_back K p AtLeast x h =
    let k : K * x.down ≤ K * x.up = grind arith in let l = le_of_mul-le-mul_left {m = x.down} {n = x.up} {k = K} k p in grind arith
compares_back K p Above x h = let k : K * x.down < K * x.up = grind arith in let l = lt_of_mul-lt-mul_left K {m = x.down} {n = x.up} k in grind arith
compares_back K p AtMost x h =
    let k : K * x.up ≤ K * x.down = grind arith in let l = le_of_mul-le-mul_left {m = x.up} {n = x.down} {k = K} k p in grind arith
compares_back K p Below x h = let k : K * x.up < K * x.down = grind arith in let l = lt_of_mul-lt-mul_left K {m = x.up} {n = x.down} k in grind arith
