-- The gap of two ramps, and of a ramp and a constant.
use Rattle.std.proofs.Common.{◌≡◌, ◌↔◌, ℤ, pos, ◌+ℤ◌, ◌-ℤ◌, ◌*ℤ◌, neg_ℤ, ◌+◌, ◌*◌, arith, refl, sym, inl, inr, ap, ◌∙◌, Option, Some, None, IfSome, MatchOption}
use Rattle.std.specs.Int.RustNames.{unsigned_abs}
use Rattle.std.proofs.lemmas.Int.{ints, unsigned_abs-mul}
use Rattle.std.proofs.Math.Nat.{eq_of_mul-eq-mul_right}
use Rattle.rational.specs.Rational.{Rational, ◌≈◌, part_above, part_below, fraction}
use Rattle.rational.specs.Line.{Level, at, gap_line, constant, AreParallel, MeetAt}
use Rattle.rational.proofs.Mixed.{parts, mul_parts}
use Rattle.frac128.specs.declared.frac.Frac.{Frac}
use Rattle.frac128.specs.declared.ramp.Ramp.{Ramp}
use Rattle.frac128.specs.declared.ratio.Ratio.{Ratio}
use Rattle.frac128.specs.Sizes.{IsQuotient}
use Rattle.frac128.specs.Value.{value}
use Rattle.frac128.specs.Line.{line}
use Rattle.frac128.specs.Difference.{IsAbove}
use Rattle.frac128.proofs.Differences.{everywhere_zero, gap_from_parts, meeting, zero_everywhere}

-- the value at 0, times the run
pub offset_parts : (f : Ramp) (o : ℤ) → o ≡ f.v0 *ℤ pos f.run -ℤ f.rise *ℤ f.t0 → part_above o + (line f).base_down ≡ part_below o + (line f).base_up
offset_parts f o h = omega (arith, mul_parts f.rise f.t0, first, second)
  where
    first : part_above (f.v0 *ℤ pos f.run) + part_below f.v0 * f.run ≡ part_below (f.v0 *ℤ pos f.run) + part_above f.v0 * f.run
    first = omega (arith, parts)

    second : part_above o + part_below (f.v0 *ℤ pos f.run) + part_above (f.rise *ℤ f.t0)
        ≡ part_below o + part_above (f.v0 *ℤ pos f.run) + part_below (f.rise *ℤ f.t0)
    second = omega (arith, parts)

pub record RampDifference (f g : Ramp) (of og base climb : ℤ) : Type 0 where
  -- the first value at 0, times the run
  pub first : of ≡ f.v0 *ℤ pos f.run -ℤ f.rise *ℤ f.t0
  -- and the second
  pub second : og ≡ g.v0 *ℤ pos g.run -ℤ g.rise *ℤ g.t0
  -- the base of the gap
  pub base_is : base ≡ of *ℤ pos g.run -ℤ og *ℤ pos f.run
  -- its climb
  pub climb_is : climb ≡ f.rise *ℤ pos g.run -ℤ g.rise *ℤ pos f.run

-- these are the gap of two ramps
pub gap_of_ramps : (f g : Ramp) (of og base climb : ℤ) → RampDifference f g of og base climb → IsAbove (gap_line (line f) (line g)) base climb
gap_of_ramps f g of og base climb h =
    gap_from_parts (gap_line (line f) (line g)) base climb
    (omega (arith, difference, ap (λ n. n * g.run) (offset_parts f of h.first), ap (λ n. n * f.run) (offset_parts g og h.second)))
    (let e = h.climb_is in omega (arith, parts))
  where
    difference : part_above base + part_below of * g.run + part_above og * f.run ≡ part_below base + part_above of * g.run + part_below og * f.run
    difference = let e = h.base_is in omega (arith, parts)

-- two ramps of one run and one rise are one line exactly where their values at 0, times the run, are equal
pub one_line_by_offsets : (f g : Ramp) (of og : ℤ) → f.run ≡ g.run → f.rise ≡ g.rise → of ≡ f.v0 *ℤ pos f.run -ℤ f.rise *ℤ f.t0
    → og ≡ g.v0 *ℤ pos g.run -ℤ g.rise *ℤ g.t0 → of ≡ og ↔ ((t : Rational) → at (line f) t ≈ at (line g) t)
one_line_by_offsets f g of og run rise first second =
    (λ e. zero_everywhere (line f) (line g) base climb gap (base_zero e, climb_zero), λ h. equal (everywhere_zero (line f) (line g) base climb gap h).0)
  where
    base : ℤ
    base = of *ℤ pos g.run -ℤ og *ℤ pos f.run

    climb : ℤ
    climb = f.rise *ℤ pos g.run -ℤ g.rise *ℤ pos f.run

    gap : IsAbove (gap_line (line f) (line g)) base climb
    gap = gap_of_ramps f g of og base climb (record { first = first; second = second; base_is = refl; climb_is = refl })

    base_zero : of ≡ og → base ≡ pos 0
    base_zero e = let is : base ≡ of *ℤ pos g.run -ℤ og *ℤ pos f.run = refl in
        omega (arith, ints, is, ap (λ z. z *ℤ pos g.run) e, ap (λ n. og *ℤ pos n) run)

    climb_zero : climb ≡ pos 0
    climb_zero = let is : climb ≡ f.rise *ℤ pos g.run -ℤ g.rise *ℤ pos f.run = refl in
        omega (arith, ints, is, ap (λ z. z *ℤ pos g.run) rise, ap (λ n. g.rise *ℤ pos n) run)

    apart : (b : ℤ) → b ≡ of *ℤ pos g.run -ℤ og *ℤ pos f.run
        → part_above b + part_below of * g.run + part_above og * f.run ≡ part_below b + part_above of * g.run + part_below og * f.run
    apart b e = omega (arith, parts)

    products : base ≡ pos 0 → (part_below of + part_above og) * g.run ≡ (part_above of + part_below og) * g.run
    products z = let e = apart (pos 0) (sym z) in
        omega (arith, parts, e, ap (λ n. part_above og * n) run, ap (λ n. part_below og * n) run)

    equal : base ≡ pos 0 → of ≡ og
    equal z = let k = eq_of_mul-eq-mul_right g.run g.positive (part_below of + part_above og) (part_above of + part_below og) (products z) in
        omega (arith, parts, k)

pub record ConstantDifference (f : Ramp) (c : Frac) (top offset num climb : ℤ) : Type 0 where
  -- the first value at 0, times the run
  pub first : top ≡ c.whole *ℤ pos c.den +ℤ pos c.rest
  -- and the second
  pub second : offset ≡ f.v0 *ℤ pos f.run -ℤ f.rise *ℤ f.t0
  -- the numerator of the time at which the constant is reached
  pub num_is : num ≡ top *ℤ pos f.run -ℤ offset *ℤ pos c.den
  -- its climb
  pub climb_is : climb ≡ f.rise *ℤ pos c.den

-- and of a ramp and a constant
pub gap_of_constant : (f : Ramp) (c : Frac) (top offset num climb : ℤ) → ConstantDifference f c top offset num climb
    → IsAbove (gap_line (line f) (constant (value c))) (neg_ℤ num) climb
gap_of_constant f c top offset num climb h =
    gap_from_parts (gap_line (line f) (constant (value c))) (neg_ℤ num) climb
    (omega (arith, difference, ap (λ n. n * f.run) first, ap (λ n. n * c.den) (offset_parts f offset h.second)))
    (let e = h.climb_is in omega (arith, parts))
  where
    first : part_above top + part_below c.whole * c.den ≡ part_below top + part_above c.whole * c.den + c.rest
    first = let e = h.first in omega (arith, parts)

    difference : part_above (neg_ℤ num) + part_above top * f.run + part_below offset * c.den
        ≡ part_below (neg_ℤ num) + part_below top * f.run + part_above offset * c.den
    difference = let e = h.num_is in omega (arith, parts)

-- against a constant a ramp is parallel where it is level
level_of_parallel : (f : Ramp) (c : Frac) → AreParallel (line f) (constant (value c)) → Level (line f)
level_of_parallel f c h = record { level = eq_of_mul-eq-mul_right c.den c.positive _ _ (let k = h.level in omega arith) }

-- a level ramp is parallel to a constant
pub parallel_of_level : (f : Ramp) (c : Frac) → Level (line f) → AreParallel (line f) (constant (value c))
parallel_of_level f c h = record { level = omega (arith, ap (λ n. n * c.den) h.level) }

-- the time at which a ramp reaches a constant
pub reaching : (f : Ramp) (c : Frac) (top offset num climb : ℤ) (o : Option Ratio) → ConstantDifference f c top offset num climb
    → MatchOption o (climb ≡ pos 0) (λ q. IsQuotient num climb q.num q.den)
    → MatchOption o (Level (line f)) (λ q. ¬ (Level (line f)) × MeetAt (line f) (constant (value c)) (fraction q.num q.den))
reaching f c top offset num climb None h k =
    level_of_parallel f c (meeting (line f) (constant (value c)) (neg_ℤ num) climb None (gap_of_constant f c top offset num climb h) k)
reaching f c top offset num climb (Some q) h k =
    let turned : IsQuotient (neg_ℤ (neg_ℤ num)) climb q.num q.den = rw (neg_neg num) k in
    let m = meeting (line f) (constant (value c)) (neg_ℤ num) climb (Some q) (gap_of_constant f c top offset num climb h) turned in
    (λ l. m.0 (parallel_of_level f c l), m.1)
  where
    neg_neg : (z : ℤ) → neg_ℤ (neg_ℤ z) ≡ z
    neg_neg z = omega (arith, ints)

-- its denominator
pub reaching_den : (f : Ramp) (c : Frac) (num climb : ℤ) (o : Option Ratio) → climb ≡ f.rise *ℤ pos c.den → MatchOption o
    (climb ≡ pos 0) (λ q. IsQuotient num climb q.num q.den) → IfSome o (λ q. unsigned_abs q.den ≡ unsigned_abs f.rise * c.den)
reaching_den f c num climb None e k = tt
reaching_den f c num climb (Some q) e (p, inl k) = ap unsigned_abs (k.1 ∙ e) ∙ unsigned_abs-mul f.rise (pos c.den)
reaching_den f c num climb (Some q) e (p, inr k) = ap unsigned_abs k.1 ∙ abs_neg climb ∙ ap unsigned_abs e ∙ unsigned_abs-mul f.rise (pos c.den)
  where
    abs_neg : (z : ℤ) → unsigned_abs (neg_ℤ z) ≡ unsigned_abs z
    abs_neg z = omega (arith, ints)

-- a ramp's line as whole numbers
pub ramp_gap : (f : Ramp) (offset : ℤ) → offset ≡ f.v0 *ℤ pos f.run -ℤ f.rise *ℤ f.t0 → IsAbove (line f) offset f.rise
ramp_gap f offset h = gap_from_parts (line f) offset f.rise (offset_parts f offset h) (omega arith)

-- the value at a whole time is the value at 0, moved
pub on_from_zero : (v0 rise t0 w num offset run : ℤ) → num ≡ v0 *ℤ run +ℤ rise *ℤ (w -ℤ t0) → offset ≡ v0 *ℤ run -ℤ rise *ℤ t0
    → num ≡ offset +ℤ rise *ℤ w
on_from_zero v0 rise t0 w num offset run h j = omega (arith, parts, h, j, mul_parts rise (w -ℤ t0), mul_parts rise t0, mul_parts rise w, moved)
  where
    gap : part_above (w -ℤ t0) + part_below w + part_above t0 ≡ part_below (w -ℤ t0) + part_above w + part_below t0
    gap = omega (arith, parts)

    moved : part_above rise * part_above (w -ℤ t0) + part_above rise * part_below w + part_above rise * part_above t0
        + (part_below rise * part_below (w -ℤ t0) + part_below rise * part_above w + part_below rise * part_below t0)
        ≡ part_above rise * part_below (w -ℤ t0) + part_above rise * part_above w + part_above rise * part_below t0
        + (part_below rise * part_above (w -ℤ t0) + part_below rise * part_below w + part_below rise * part_above t0)
    moved = omega (arith, ap (λ n. part_above rise * n) gap, ap (λ n. part_below rise * n) gap)
