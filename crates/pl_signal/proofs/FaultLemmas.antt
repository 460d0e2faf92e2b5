-- Times of a fault that are mirrored.
use Rattle.std.proofs.Common.{◌+◌, ◌≤◌, ◌^◌, ℤ, w64, lit<}
use Rattle.std.specs.Int.RustNames.{unsigned_abs}
use Rattle.rational.specs.Rational.{Rational, IsWithin, FitsFloor, subtract, whole}
use Rattle.rational.proofs.Mixed.{fits_of_within, within_add, within_negate, within_whole}

-- a time within 2^34, mirrored about another, fits
pub mirrored_fits : (t : Rational) (z : ℤ) → unsigned_abs z ≤ 2 ^ 34 → IsWithin (2 ^ 34) t → FitsFloor w64 (subtract (whole z) t)
mirrored_fits t z h k = fits_of_within w64 (2 ^ 34 + 2 ^ 34) (lit< tt) (within_add (2 ^ 34) (2 ^ 34) (within_whole (2 ^ 34) z h) (within_negate (2 ^ 34) k))
