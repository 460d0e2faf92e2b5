-- The value of a ramp at its base and at the end of its run.
use Rattle.std.proofs.Common.{◌≡◌, ℕ, ℤ, pos, ◌+ℤ◌, ◌-ℤ◌, ◌+◌, ◌*◌, ◌<◌, arith, ap, refl, subst, sym}
use Rattle.std.proofs.Math.Nat.{eq_of_mul-eq-mul_right}
use Rattle.std.proofs.lemmas.Int.{ints}
use Rattle.std.specs.declared.cmp.Ordering.{Ordering}
use Rattle.std.specs.declared.cmp.Ordering.TheVariants.{Less, Equal, Greater}
use Rattle.std.specs.Ordering.{int_cmp}
use Rattle.std.proofs.lemmas.Cmp.{int_ranked}
use Rattle.rational.specs.Rational.{Rational, part_above, part_below, mixed, whole, IsOrder, ◌≈◌}
use Rattle.rational.specs.Line.{at, gap_line, ramp_line}
use Rattle.rational.proofs.Mixed.{parts}
use Rattle.frac128.specs.declared.frac.Frac.{Frac}
use Rattle.frac128.specs.declared.ramp.Ramp.{Ramp}
use Rattle.frac128.specs.Line.{line}
use Rattle.frac128.specs.Lowest.{IsWide}
use Rattle.frac128.specs.Value.{value}
use Rattle.frac128.proofs.Fractions.{HasDenominator-value, one_fraction}
use Rattle.frac128.proofs.Wholes.{whole_frac}
use Rattle.rational.proofs.Order.{same_trans}
use Rattle.frac128.proofs.Differences.{everywhere_zero}
use Rattle.frac128.proofs.Making.{not_wide}

at_base : (t0 v0 rise : ℤ) (run k : ℕ) (p : 0 < run) (q : 0 < k) → at (ramp_line t0 v0 rise run p) (mixed t0 0 k q) ≈ whole v0
at_base t0 v0 rise run k p q = record { same = omega arith }

at_end : (t0 v0 rise w v : ℤ) (run k : ℕ) (p : 0 < run) (q : 0 < k) → w ≡ t0 +ℤ pos run → v ≡ v0 +ℤ rise
    → at (ramp_line t0 v0 rise run p) (mixed w 0 k q) ≈ whole v
at_end t0 v0 rise w v run k p q h j =
    record { same = omega (arith, ap (λ n. part_above rise * k * n) time, ap (λ n. part_below rise * k * n) time, ap (λ n. run * k * n) height) }
  where
    time : part_above w + part_below t0 ≡ part_below w + part_above t0 + run
    time = omega (arith, parts)

    height : part_above v + part_below v0 + part_below rise ≡ part_below v + part_above v0 + part_above rise
    height = omega (arith, parts)

-- at its base a ramp has its base value
pub value_at_base : (f : Ramp) (t : Frac) → t.rest ≡ 0 → t.whole ≡ f.t0 → at (line f) (value t) ≈ whole f.v0
value_at_base f t r h =
    subst (λ n. at (line f) (mixed t.whole n t.den t.positive) ≈ whole f.v0) (sym r)
    (subst (λ w. at (line f) (mixed w 0 t.den t.positive) ≈ whole f.v0) (sym h)
    (at_base f.t0 f.v0 f.rise f.run t.den f.positive t.positive))

-- at the end of its run it has risen
pub value_at_end : (f : Ramp) (t : Frac) (v : ℤ) → t.rest ≡ 0 → t.whole ≡ f.t0 +ℤ pos f.run → v ≡ f.v0 +ℤ f.rise → at (line f) (value t) ≈ whole v
value_at_end f t v r h j =
    subst (λ n. at (line f) (mixed t.whole n t.den t.positive) ≈ whole v) (sym r)
    (at_end f.t0 f.v0 f.rise t.whole v f.run t.den f.positive t.positive h j)

-- a fraction that is a whole number is its floor, with no rest
pub floor_of_whole : (t : Frac) (n : ℤ) → value t ≈ whole n → (t.whole ≡ n) × (t.rest ≡ 0)
floor_of_whole t n h = let one = one_fraction t (whole_frac n) (same_trans h (record { same = omega arith })) in (one.0, one.1)

-- the order of whole numbers
pub order_of_wholes : (o : Ordering) (v w : ℤ) → o ≡ int_cmp v w → IsOrder o (whole v) (whole w)
order_of_wholes Less v w h = record { lt = let l = int_ranked v w Less h in omega (arith, parts) }
order_of_wholes Equal v w h = record { same = let l = int_ranked v w Equal h in omega (arith, parts) }
order_of_wholes Greater v w h = record { lt = let l = int_ranked v w Greater h in omega (arith, parts) }

-- ramps of one run with other rises are not one
pub other_rises : (f g : Ramp) → f.run ≡ g.run → ¬ (f.rise ≡ g.rise) → ¬ ((t : Rational) → at (line f) t ≈ at (line g) t)
other_rises f g h n e = n (omega (arith, parts, rises))
  where
    climb : pos (gap_line (line f) (line g)).rise_up -ℤ pos (gap_line (line f) (line g)).rise_down ≡ pos 0
    climb = (everywhere_zero (line f) (line g) _ _ (record { base_is = refl; climb_is = refl }) e).1

    products : (part_above f.rise + part_below g.rise) * f.run ≡ (part_below f.rise + part_above g.rise) * f.run
    products = let k = climb in omega (arith, ints, ap (λ n. part_above f.rise * n) h, ap (λ n. part_below f.rise * n) h)

    rises : part_above f.rise + part_below g.rise ≡ part_below f.rise + part_above g.rise
    rises = eq_of_mul-eq-mul_right f.run f.positive _ _ products

-- what has the value of a fraction is not wide
pub not_wide_at : (f : Frac) → ¬ (IsWide (value f))
not_wide_at f = not_wide (value f) f.den (HasDenominator-value f) f.small
