-- A number with a small denominator is one that the program keeps.
use Rattle.std.proofs.Common.{◌≡◌, ℕ, suc, ◌+◌, ◌-◌, ◌*◌, ◌/◌, ◌%◌, ◌^◌, ◌<◌, ◌≤◌, ap, subst, arith, ℤ, pos, negsuc, ◌-ℤ◌}
use Prim.Native.Nat.{◌∣◌}
use Rattle.std.proofs.Math.Nat.{dvd-sub, dvd-mul_left_of_dvd}
use Rattle.std.proofs.lemmas.Nat.{div-add-mod', mod_below}
use Rattle.std.proofs.lemmas.Nat.Gcd.{le_of_dvd}
use Rattle.rational.specs.Rational.{Rational, ◌≈◌, part_above, part_below, mixed, ratio, whole}
use Rattle.rational.specs.Time.{IsLowest, HasDenominator}
use Rattle.rational.proofs.Order.{same_sym, same_trans}
use Rattle.rational.proofs.Mixed.{parts}
use Rattle.rational.proofs.Lowest.{dvd_of_Divides, Divides_of_dvd, denominator_same, denominator_divides, lowest_whole}
use Rattle.frac128.specs.Value.{value}
use Rattle.frac128.specs.declared.frac.Frac.{Frac}

-- a number of the program
pub record HasFrac (t : Rational) : Type 0 where
  -- the number as it is kept
  pub frac : Frac
  -- it is the number
  pub same : value frac ≈ t

rest_lowest : (n d : ℕ) → IsLowest (pos n) d → IsLowest (pos (n % d)) d
rest_lowest n d low = record { positive = low.positive; coprime = λ k (x, r) (y, e). low.coprime k (n / d * y + x, divided k x y r e) (y, e) }
  where
    divided : (k x y : ℕ) → n % d ≡ k * x → d ≡ k * y → n ≡ k * (n / d * y + x)
    divided k x y r e = let m = div-add-mod' n d in omega (arith, m, r, ap (λ z. n / d * z) e)

-- below 0, with the rest above the floor
turned_lowest : (n d q r s : ℕ) → s + suc n ≡ suc q * d → IsLowest (negsuc n) d → IsLowest (pos s) d
turned_lowest n d q r s e low = record {
  positive = low.positive;
  coprime = λ k i j. low.coprime k (Divides_of_dvd k (suc n)
      (subst (λ z. k ∣ z) (let m : suc q * d - s ≡ suc n = omega (arith, e) in m)
      (dvd-sub k (dvd-mul_left_of_dvd k (dvd_of_Divides k d j) (suc q)) (dvd_of_Divides k s i)))) j;
}

-- a number with a denominator below 2^60
pub has_frac : (t : Rational) (d : ℕ) → HasDenominator t d → d < 2 ^ 60 → HasFrac t
has_frac t d (pos n, low, e) small = record {
  frac = record {
    whole = pos (n / d);
    rest = n % d;
    den = d;
    positive = low.positive;
    below = mod_below n d low.positive;
    small = small;
    lowest = rest_lowest n d low;
  };
  same = same_trans {b = ratio (pos n) d low.positive} (record { same = let m = div-add-mod' n d in omega (arith, ap (λ z. z * d) m) }) (same_sym e);
}
has_frac t d (negsuc n, low, e) small =
    let b = mod_below n d low.positive in
    let m = div-add-mod' n d in
    let turn : d - 1 - n % d + suc n ≡ suc (n / d) * d = omega (arith, b, m) in record {
      frac = record {
        whole = negsuc (n / d);
        rest = d - 1 - n % d;
        den = d;
        positive = low.positive;
        below = let p = low.positive in omega (arith, p);
        small = small;
        lowest = turned_lowest n d (n / d) (n % d) (d - 1 - n % d) turn low;
      };
      same = same_trans {a = mixed (negsuc (n / d)) (d - 1 - n % d) d low.positive} {b = ratio (negsuc n) d low.positive}
          (record { same = omega (arith, ap (λ z. z * d) turn) }) (same_sym e);
    }

-- a whole number
pub has_whole : (t : Rational) (n : ℕ) → t ≈ whole (pos n) → HasFrac t
has_whole t n e = record {
  frac = record { whole = pos n; rest = 0; den = 1; positive = omega arith; below = omega arith; small = omega arith; lowest = lowest_whole (pos 0) };
  same = same_trans (record { same = omega arith }) (same_sym e);
}

-- any whole number
pub has_int : (z : ℤ) → HasFrac (whole z)
has_int z = has_frac (whole z) 1 (z, lowest_whole z, record { same = omega arith }) (omega arith)

-- the denominator in lowest terms is none above that of a pair
pub at_most_its_own : (v : Rational) (d : ℕ) → HasDenominator v d → d ≤ v.den
at_most_its_own v d h =
    le_of_dvd v.positive (denominator_divides (pos v.up -ℤ pos v.down) v.den d v.positive (denominator_same d (same_sym whole_of) h))
  where
    whole_of : ratio (pos v.up -ℤ pos v.down) v.den v.positive ≈ v
    whole_of = record { same = omega (arith, ap (λ n. n * v.den) step) }
      where
        step : part_above (pos v.up -ℤ pos v.down) + v.down ≡ v.up + part_below (pos v.up -ℤ pos v.down)
        step = omega (arith, parts)
