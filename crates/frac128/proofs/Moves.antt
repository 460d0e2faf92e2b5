-- A ramp that is negated, moved or turned over in time.
use Rattle.std.proofs.Common.{◌≡◌, ℕ, ℤ, ◌-ℤ◌, neg_ℤ, ◌+◌, ◌*◌, ◌<◌, arith, ap}
use Rattle.rational.specs.Rational.{Rational, part_above, part_below, whole, add, negate, subtract, ◌≈◌}
use Rattle.rational.specs.Line.{ramp_line, at}
use Rattle.rational.proofs.Mixed.{parts, above_neg, below_neg}

-- minus a ramp
pub negated : (t0 v0 rise : ℤ) {t0' v0' rise' : ℤ} {run : ℕ} (p p' : 0 < run) (t : Rational) → t0' ≡ t0 → v0' ≡ neg_ℤ v0
    → rise' ≡ neg_ℤ rise → at (ramp_line t0' v0' rise' run p') t ≈ negate (at (ramp_line t0 v0 rise run p) t)
negated t0 v0 rise p p' t h j k = rw (h, j, k, above_neg v0, below_neg v0, above_neg rise, below_neg rise) (omega arith)

-- a ramp moved in time
pub shifted : (t0 v0 rise by : ℤ) {t0' v0' rise' : ℤ} {run : ℕ} (p p' : 0 < run) (t : Rational) → t0' ≡ t0 -ℤ by → v0' ≡ v0
    → rise' ≡ rise → at (ramp_line t0' v0' rise' run p') t ≈ at (ramp_line t0 v0 rise run p) (add t (whole by))
shifted t0 v0 rise by {t0'} {run = run} p p' t h j k = rw (j, k) record {
  same = omega (arith, ap (λ n. part_above rise * n * (t.den * run * t.den)) moved, ap (λ n. part_below rise * n * (t.den * run * t.den)) moved);
}
  where
    moved : part_above t0' + part_below t0 + part_above by ≡ part_below t0' + part_above t0 + part_below by
    moved = omega (arith, parts)

-- a ramp turned over in time
pub mirrored : (t0 v0 rise about : ℤ) {t0' v0' rise' : ℤ} {run : ℕ} (p p' : 0 < run) (t : Rational) → t0' ≡ about -ℤ t0 → v0' ≡ v0
    → rise' ≡ neg_ℤ rise → at (ramp_line t0' v0' rise' run p') t ≈ at (ramp_line t0 v0 rise run p) (subtract (whole about) t)
mirrored t0 v0 rise about {t0'} {run = run} p p' t h j k = rw (j, k, above_neg rise, below_neg rise) record {
  same = omega (arith, ap (λ n. part_above rise * n * (t.den * run * t.den)) moved, ap (λ n. part_below rise * n * (t.den * run * t.den)) moved);
}
  where
    moved : part_above t0' + part_above t0 + part_below about ≡ part_below t0' + part_below t0 + part_above about
    moved = omega (arith, parts)
