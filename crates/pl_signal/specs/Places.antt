-- A signal read at a time, by the place of a knot.
use Rattle.std.specs.Prelude.{◌≡◌, ◌+◌, ◌<◌, ℕ, List, length, Some, slice_get}
use Rattle.rational.specs.Time.{Rational, ◌<ʳ◌, ◌≤ʳ◌}
use Rattle.pl_signal.specs.declared.knot.Knot.{Knot}
use Rattle.pl_signal.specs.Knots.{time}

-- the knot at the place is the last one that is not later than t
pub record IsPlace {P : Type 0} (knots : List (Knot P)) (t : Rational) (i : ℕ) : Type 0 where
  pub inside : i < length knots
  pub not_later : (k : Knot P) → slice_get knots i ≡ Some k → time k ≤ʳ t
  pub later : (k : Knot P) → slice_get knots (i + 1) ≡ Some k → t <ʳ time k
