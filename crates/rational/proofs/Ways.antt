-- The number part of the way from one whole number to another, and what becomes of it under sums and multiples.
use Rattle.std.proofs.Common.{◌≡◌, ℕ, ℤ, pos, ◌+ℤ◌, ◌-ℤ◌, ◌*ℤ◌, ◌+◌, ◌*◌, ◌<◌, arith, ap}
use Rattle.rational.specs.Rational.{Rational, ◌≈◌, add, subtract, multiply, whole, ratio, part_above, part_below}
use Rattle.rational.specs.Time.{times}
use Rattle.rational.specs.Line.{at, ramp_line}
use Rattle.rational.proofs.Mixed.{parts, mul_parts}

-- s plus the part x of the way from s to e
abbrev pub on_way : ℤ → ℤ → Rational → Rational
on_way s e x = add (whole s) (times (e -ℤ s) x)

-- which part of a run from t0 on has passed at t
abbrev pub passed : ℤ → (run : ℕ) → 0 < run → Rational → Rational
passed t0 run p t = multiply (ratio (pos 1) run p) (subtract t (whole t0))

sum_parts : (a b : ℤ) → part_above a + part_above b + part_below (a +ℤ b) ≡ part_below a + part_below b + part_above (a +ℤ b)
sum_parts a b = omega (arith, parts)

less_parts : (a b : ℤ) → part_above a + part_below b + part_below (a -ℤ b) ≡ part_below a + part_above b + part_above (a -ℤ b)
less_parts a b = omega (arith, parts)

-- the way from a number to itself stays there
pub way_starts : (s : ℤ) (x : Rational) → on_way s s x ≈ whole s
way_starts s x = record { same = omega (arith, ap (λ n. n * x.up) step, ap (λ n. n * x.down) step) }
  where
    step : part_above (s -ℤ s) ≡ part_below (s -ℤ s)
    step = omega (arith, parts)

-- a sum of ways is the way between the sums
pub way_sum : (s e s' e' : ℤ) (x : Rational) → add (on_way s e x) (on_way s' e' x) ≈ on_way (s +ℤ s') (e +ℤ e') x
way_sum s e s' e' x = record {
  same = omega (
    arith,
    ap (λ n. n * (x.den * x.den * x.den)) (sum_parts s s'),
    ap (λ n. n * (x.up * x.den * x.den)) rise,
    ap (λ n. n * (x.down * x.den * x.den)) rise,
  );
}
  where
    rise : part_above (e -ℤ s) + part_above (e' -ℤ s') + part_below (e +ℤ e' -ℤ (s +ℤ s'))
        ≡ part_below (e -ℤ s) + part_below (e' -ℤ s') + part_above (e +ℤ e' -ℤ (s +ℤ s'))
    rise = omega (arith, parts)

-- a multiple of a way is the way between the multiples
pub way_times : (k s e : ℤ) (x : Rational) → times k (on_way s e x) ≈ on_way (k *ℤ s) (k *ℤ e) x
way_times k s e x = record {
  same = omega (arith, ap (λ n. n * (x.den * x.den)) (mul_parts k s), ap (λ n. n * (x.up * x.den)) rise, ap (λ n. n * (x.down * x.den)) rise);
}
  where
    rise : part_above (k *ℤ e -ℤ k *ℤ s) + (part_above k * part_below (e -ℤ s) + part_below k * part_above (e -ℤ s))
        ≡ part_below (k *ℤ e -ℤ k *ℤ s) + (part_above k * part_above (e -ℤ s) + part_below k * part_below (e -ℤ s))
    rise = omega (
      arith,
      mul_parts k s,
      mul_parts k e,
      less_parts (k *ℤ e) (k *ℤ s),
      ap (λ n. part_above k * n) (less_parts e s),
      ap (λ n. part_below k * n) (less_parts e s),
    )

-- a way less a number is the way between the differences
pub way_less : (s e c : ℤ) (x : Rational) → subtract (on_way s e x) (whole c) ≈ on_way (s -ℤ c) (e -ℤ c) x
way_less s e c x =
    record { same = omega (arith, ap (λ n. n * (x.den * x.den)) (less_parts s c), ap (λ n. n * (x.up * x.den)) rise, ap (λ n. n * (x.down * x.den)) rise) }
  where
    rise : part_above (e -ℤ s) + part_below (e -ℤ c -ℤ (s -ℤ c)) ≡ part_below (e -ℤ s) + part_above (e -ℤ c -ℤ (s -ℤ c))
    rise = omega (arith, parts)

-- a ramp is on the way from its base value to its end
pub way_ramp : (t0 s e : ℤ) (run : ℕ) (p : 0 < run) (t : Rational) → at (ramp_line t0 s (e -ℤ s) run p) t ≈ on_way s e (passed t0 run p t)
way_ramp t0 s e run p t = omega arith
