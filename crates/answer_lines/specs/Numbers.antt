-- Numbers of ticks as fractions of units.
use Rattle.std.specs.Prelude.{◌≡◌, ◌≢◌, ℕ, ◌^◌, Bool, true, false, ℤ, pos, neg_ℤ, ◌*ℤ◌}
use Rattle.rational.specs.Time.{Rational, IsLowest, ratio, ◌≈◌}

-- a size with its sign
abbrev pub signed : Bool → ℕ → ℤ
signed true n = neg_ℤ (pos n)
signed false n = pos n

-- the fraction, by its sign and its size, is t ticks of 1 / 10^digits in lowest terms
pub record IsInUnits (digits : ℕ) (t : Rational) (negative : Bool) (size den : ℕ) : Type 0 where
  pub lowest : IsLowest (signed negative size) den
  pub same : t ≈ ratio (signed negative size *ℤ pos (10 ^ digits)) den lowest.positive
  pub unsigned_zero : negative ≡ true → size ≢ 0
