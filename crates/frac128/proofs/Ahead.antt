-- The sizes of the products in the value of a ramp, and that value.
use Rattle.std.proofs.Common.{◌≡◌, ℕ, ℤ, pos, negsuc, ◌+ℤ◌, ◌-ℤ◌, ◌*ℤ◌, ◌<ℤ◌, ◌+◌, ◌*◌, ◌^◌, ◌<◌, ◌≤◌}
use Rattle.std.proofs.Common.{arith, ap, sym, subst, ◌∙◌, mul-le-mul, mul-pos, FitsSigned, ◌-◌}
use Rattle.std.proofs.Math.IntN.{*ℤ-one}
use mir.Syntax.{w128}
use Rattle.std.specs.Int.RustNames.{unsigned_abs}
use Rattle.std.proofs.lemmas.Int.{ints, unsigned_abs-mul, fits_signed_from_abs}
use Rattle.rational.specs.Rational.{part_above, part_below, ratio, fraction, IsWithin, ◌≈◌}
use Rattle.rational.specs.Line.{at}
use Rattle.rational.proofs.Mixed.{parts, fraction-is, mul_parts}
use Rattle.frac128.proofs.Ratios.{abs_pos}
use borrow.Author.Differences.{up, down}
use Rattle.frac128.specs.declared.frac.Frac.{Frac}
use Rattle.frac128.specs.declared.ramp.Ramp.{Ramp}
use Rattle.frac128.specs.Value.{value}
use Rattle.frac128.proofs.Fractions.{whole_of_within}
use Rattle.frac128.specs.Line.{line}
use Rattle.frac128.specs.Sizes.{AreSmall}

abs_add : (a b : ℤ) → unsigned_abs (a +ℤ b) ≤ unsigned_abs a + unsigned_abs b
abs_add a b = omega (arith, ints)

abs_mul_le : (a b : ℤ) (m n : ℕ) → unsigned_abs a ≤ m → unsigned_abs b ≤ n → unsigned_abs (a *ℤ b) ≤ m * n
abs_mul_le a b m n h k = rw (unsigned_abs-mul a b) (mul-le-mul h k)

pub record Fit (v0 rise run gap rest den : ℤ) : Type 0 where
  -- the base value times the run
  pub v0_run : FitsSigned w128 (v0 *ℤ run)
  -- that times the time's denominator
  pub v0_run_den : FitsSigned w128 (v0 *ℤ run *ℤ den)
  -- the whole ticks from the base, over the denominator
  pub gap_den : FitsSigned w128 (gap *ℤ den)
  -- the way from the base
  pub ahead : FitsSigned w128 (gap *ℤ den +ℤ rest)
  -- the rise along it
  pub climb : FitsSigned w128 (rise *ℤ (gap *ℤ den +ℤ rest))
  -- the numerator of the value
  pub num : FitsSigned w128 (v0 *ℤ run *ℤ den +ℤ rise *ℤ (gap *ℤ den +ℤ rest))
  -- its denominator
  pub run_den : FitsSigned w128 (run *ℤ den)

-- all of them fit 128 bits
pub all_fit : {v0 rise run gap rest den : ℤ} → AreSmall v0 rise run gap rest den → Fit v0 rise run gap rest den
all_fit {v0} {rise} {run} {gap} {rest} {den} s =
    let v = abs_mul_le v0 run (2 ^ 31) (2 ^ 32) s.v0_small s.run_small in
    let w = abs_mul_le (v0 *ℤ run) den (2 ^ 63) (2 ^ 60) v s.den_small in
    let g = abs_mul_le gap den (2 ^ 35) (2 ^ 60) s.gap_small s.den_small in
    let a : unsigned_abs (gap *ℤ den +ℤ rest) ≤ 2 ^ 95 + 2 ^ 60 = omega (arith, abs_add (gap *ℤ den) rest, s.rest_small) in
    let c = abs_mul_le rise (gap *ℤ den +ℤ rest) (2 ^ 31) (2 ^ 95 + 2 ^ 60) s.rise_small a in
    let n : unsigned_abs (v0 *ℤ run *ℤ den +ℤ rise *ℤ (gap *ℤ den +ℤ rest)) ≤ 2 ^ 127 - 1 =
    omega (arith, abs_add (v0 *ℤ run *ℤ den) (rise *ℤ (gap *ℤ den +ℤ rest))) in
    let r = abs_mul_le run den (2 ^ 32) (2 ^ 60) s.run_small s.den_small in
    record {
      v0_run = fits_signed_from_abs w128 (v0 *ℤ run) (omega arith);
      v0_run_den = fits_signed_from_abs w128 (v0 *ℤ run *ℤ den) (omega arith);
      gap_den = fits_signed_from_abs w128 (gap *ℤ den) (omega arith);
      ahead = fits_signed_from_abs w128 (gap *ℤ den +ℤ rest) (omega arith);
      climb = fits_signed_from_abs w128 (rise *ℤ (gap *ℤ den +ℤ rest)) (omega arith);
      num = fits_signed_from_abs w128 (v0 *ℤ run *ℤ den +ℤ rise *ℤ (gap *ℤ den +ℤ rest)) (omega arith);
      run_den = fits_signed_from_abs w128 (run *ℤ den) (omega arith);
    }

-- a product of numbers above 0 is above 0
pub product_positive : (a b : ℤ) → pos 0 <ℤ a → pos 0 <ℤ b → pos 0 <ℤ (a *ℤ b)
product_positive (pos a) (pos b) h k = let p : 0 < a * b = mul-pos (omega (arith, ints)) (omega (arith, ints)) in omega (arith, ints)
product_positive (negsuc a) b h k = absurd (omega (arith, ints))
product_positive a (negsuc b) h k = absurd (omega (arith, ints))

-- the value that is computed is the line's
pub ahead_value : (f : Ramp) (t : Frac) (num den : ℤ) (p : 0 < unsigned_abs den) → den ≡ pos (f.run * t.den) → num ≡ f.v0 *ℤ pos f.run
    *ℤ pos t.den +ℤ f.rise *ℤ ((t.whole -ℤ f.t0) *ℤ pos t.den +ℤ pos t.rest) → ratio num (unsigned_abs den) p ≈ at (line f) (value t)
ahead_value f t num den p e h = record {
  same = omega (arith, ap (λ n. n * (f.run * t.den)) whole_num, ap (λ n. n * up_side) den_is, ap (λ n. n * down_side) den_is);
}
  where
    gap : ℤ
    gap = t.whole -ℤ f.t0

    ahead : ℤ
    ahead = gap *ℤ pos t.den +ℤ pos t.rest

    up_side : ℕ
    up_side = (at (line f) (value t)).up

    down_side : ℕ
    down_side = (at (line f) (value t)).down

    den_is : unsigned_abs den ≡ f.run * t.den
    den_is = ap unsigned_abs e

    first : part_above (f.v0 *ℤ pos f.run) + part_below f.v0 * f.run ≡ part_below (f.v0 *ℤ pos f.run) + part_above f.v0 * f.run
    first = omega (arith, parts)

    second : part_above (f.v0 *ℤ pos f.run *ℤ pos t.den) + part_below (f.v0 *ℤ pos f.run) * t.den
        ≡ part_below (f.v0 *ℤ pos f.run *ℤ pos t.den) + part_above (f.v0 *ℤ pos f.run) * t.den
    second = omega (arith, parts)

    third : part_above gap + part_below t.whole + part_above f.t0 ≡ part_below gap + part_above t.whole + part_below f.t0
    third = omega (arith, parts)

    fourth : part_above ahead + part_below gap * t.den ≡ part_below ahead + part_above gap * t.den + t.rest
    fourth = omega (arith, parts)

    fifth : part_above ahead + (part_below t.whole * t.den + part_above f.t0 * t.den)
        ≡ part_below ahead + (part_above t.whole * t.den + part_below f.t0 * t.den + t.rest)
    fifth = omega (arith, fourth, ap (λ n. n * t.den) third)

    sixth : part_above num + part_below (f.v0 *ℤ pos f.run *ℤ pos t.den) + part_below (f.rise *ℤ ahead)
        ≡ part_below num + part_above (f.v0 *ℤ pos f.run *ℤ pos t.den) + part_above (f.rise *ℤ ahead)
    sixth = omega (arith, parts)

    whole_num : part_above num + down_side ≡ part_below num + up_side
    whole_num = omega (
      arith,
      sixth,
      second,
      ap (λ n. n * t.den) first,
      mul_parts f.rise ahead,
      ap (λ n. part_above f.rise * n) fifth,
      ap (λ n. part_below f.rise * n) fifth,
    )

-- so as a fraction of whole numbers
pub ahead_fraction : (f : Ramp) (t : Frac) (num den : ℤ) → den ≡ pos (f.run * t.den) → num ≡ f.v0 *ℤ pos f.run *ℤ pos t.den
    +ℤ f.rise *ℤ ((t.whole -ℤ f.t0) *ℤ pos t.den +ℤ pos t.rest) → fraction num den ≈ at (line f) (value t)
ahead_fraction f t num den e h =
    let p : pos 0 <ℤ den = let q = mul-pos f.positive t.positive in omega (arith, ints, ap (λ z. up z) e, ap (λ z. down z) e) in
    let q = abs_pos den p in
    rw (fraction-is num den q p) (ahead_value f t num den q e h)

-- a time lies within 2^35 of a base
pub gap_small : (t : Frac) (t0 : ℤ) → unsigned_abs t0 ≤ 2 ^ 34 → IsWithin (2 ^ 34) (value t) → unsigned_abs (t.whole -ℤ t0) ≤ 2 ^ 35
gap_small t t0 h k = omega (arith, ints, whole_of_within (2 ^ 34) t k)

pub record FitParts (a b c d : ℤ) : Type 0 where
  -- the first product
  pub left : FitsSigned w128 (a *ℤ b)
  -- the second
  pub right : FitsSigned w128 (c *ℤ d)
  -- their difference
  pub less : FitsSigned w128 (a *ℤ b -ℤ c *ℤ d)
  -- and their sum
  pub more : FitsSigned w128 (a *ℤ b +ℤ c *ℤ d)
  -- the difference is no larger than both together
  pub less_small : unsigned_abs (a *ℤ b -ℤ c *ℤ d) ≤ unsigned_abs a * unsigned_abs b + unsigned_abs c * unsigned_abs d
  -- nor is the sum
  pub more_small : unsigned_abs (a *ℤ b +ℤ c *ℤ d) ≤ unsigned_abs a * unsigned_abs b + unsigned_abs c * unsigned_abs d

-- products that are small together fit 128 bits
pub parts_fit : (a b c d : ℤ) → unsigned_abs a * unsigned_abs b + unsigned_abs c * unsigned_abs d < 2 ^ 127 → FitParts a b c d
parts_fit a b c d h =
    let less : unsigned_abs (a *ℤ b -ℤ c *ℤ d) ≤ unsigned_abs a * unsigned_abs b + unsigned_abs c * unsigned_abs d =
    omega (arith, unsigned_abs-mul a b, unsigned_abs-mul c d, abs_sub (a *ℤ b) (c *ℤ d)) in
    let more : unsigned_abs (a *ℤ b +ℤ c *ℤ d) ≤ unsigned_abs a * unsigned_abs b + unsigned_abs c * unsigned_abs d =
    omega (arith, unsigned_abs-mul a b, unsigned_abs-mul c d, abs_add (a *ℤ b) (c *ℤ d)) in
    record {
      left = fits_signed_from_abs w128 (a *ℤ b) (omega (arith, unsigned_abs-mul a b));
      right = fits_signed_from_abs w128 (c *ℤ d) (omega (arith, unsigned_abs-mul c d));
      less = fits_signed_from_abs w128 (a *ℤ b -ℤ c *ℤ d) (omega arith);
      more = fits_signed_from_abs w128 (a *ℤ b +ℤ c *ℤ d) (omega arith);
      less_small = less;
      more_small = more;
    }
  where
    abs_sub : (x y : ℤ) → unsigned_abs (x -ℤ y) ≤ unsigned_abs x + unsigned_abs y
    abs_sub x y = omega (arith, ints)

-- at a time of whole ticks the denominator is the run
pub on_tick_den : (run den : ℕ) → den ≡ 1 → pos run ≡ pos (run * den)
on_tick_den run den e = ap pos (omega (arith, ap (λ d. run * d) e))

-- and the numerator has one product less
pub on_tick_num : (a rise gap : ℤ) (den rest : ℕ) → den ≡ 1 → rest ≡ 0 → a +ℤ rise *ℤ gap ≡ a *ℤ pos den +ℤ rise *ℤ (gap *ℤ pos den +ℤ pos rest)
unfolding lib.IntN.one
on_tick_num a rise gap den rest e z =
    let none : gap +ℤ pos 0 ≡ gap = omega (arith, ints) in
    subst (λ d. a +ℤ rise *ℤ gap ≡ a *ℤ pos d +ℤ rise *ℤ (gap *ℤ pos d +ℤ pos rest)) (sym e)
    (subst (λ r. a +ℤ rise *ℤ gap ≡ a *ℤ pos 1 +ℤ rise *ℤ (gap *ℤ pos 1 +ℤ pos r)) (sym z)
    (ap (λ x. x +ℤ rise *ℤ gap) (sym (*ℤ-one a)) ∙ ap (λ x. a *ℤ pos 1 +ℤ rise *ℤ x) (sym (ap (λ x. x +ℤ pos 0) (*ℤ-one gap) ∙ none))))
