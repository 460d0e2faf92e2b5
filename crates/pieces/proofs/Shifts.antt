-- Times and shapes moved by an offset.
use Rattle.std.proofs.Common.{arith, ◌≡◌, ◌≤◌, ℤ, pos, ◌^◌, ◌∙◌, ap, to_z, of_z, w64, lit<}
use Rattle.std.specs.Prelude.{◌-ℤ◌, neg_ℤ, ◌≤ℤ◌}
use Rattle.std.specs.Int.RustNames.{unsigned_abs}
use Rattle.std.proofs.lemmas.Int.{to_z-of_z, ints}
use Rattle.rational.specs.Rational.{IsWithin, add, whole, FitsFloor}
use Rattle.rational.specs.Time.{Rational, ◌≤ʳ◌}
use Rattle.rational.proofs.Order.{le_trans}
use Rattle.rational.proofs.Shift.{le_whole}
use Rattle.rational.proofs.Mixed.{fits_of_within, within_add, within_whole}
use Rattle.pieces.specs.declared.reach.Reach.{Reach}
use Rattle.pieces.specs.Windows.{IsSmall}

-- an offset as the program has it
pub passed : (z : ℤ) → neg_ℤ (pos (2 ^ 32)) ≤ℤ z → z ≤ℤ pos (2 ^ 32) → to_z w64 (of_z w64 z) ≡ z
passed z a b = to_z-of_z w64 z (omega (arith, ints, a, b))

-- an offset within the limits is negated as it stands
pub negated : (z : ℤ) → neg_ℤ (pos (2 ^ 32)) ≤ℤ z → z ≤ℤ pos (2 ^ 32) → to_z w64 (of_z w64 (pos 0 -ℤ to_z w64 (of_z w64 z))) ≡ neg_ℤ z
negated z a b =
    let less : pos 0 -ℤ z ≡ neg_ℤ z = omega (arith, ints) in
    ap (λ z. to_z w64 (of_z w64 (pos 0 -ℤ z))) (passed z a b) ∙ ap (λ z. to_z w64 (of_z w64 z)) less ∙ to_z-of_z w64 (neg_ℤ z) (omega (arith, ints, a, b))

-- a time of a domain moved by an offset lies within limits
pub within_sum : (a : Rational) (z : ℤ) → whole (pos 0) ≤ʳ a → a ≤ʳ whole (pos (2 ^ 32)) → neg_ℤ (pos (2 ^ 32)) ≤ℤ z → z ≤ℤ pos (2 ^ 32)
    → IsWithin (2 ^ 33) (add a (whole z))
within_sum a z from to low high = within_add (2 ^ 32) (2 ^ 32)
    (le_trans (le_whole {j = neg_ℤ (pos (2 ^ 32))} {k = pos 0} (omega (arith, ints))) from, to)
    (within_whole (2 ^ 32) z (omega (arith, ints, low, high)))

-- a time of a domain moved by an offset fits
pub fits : (a : Rational) (z : ℤ) → whole (pos 0) ≤ʳ a → a ≤ʳ whole (pos (2 ^ 32)) → neg_ℤ (pos (2 ^ 32)) ≤ℤ z → z ≤ℤ pos (2 ^ 32)
    → FitsFloor w64 (add a (whole z))
fits a z from to low high = fits_of_within w64 (2 ^ 33) (lit< tt) (within_sum a z from to low high)

module _ (over : Reach) (small : IsSmall over) where
  -- the low offset is not too far behind
  pub low_from : neg_ℤ (pos (2 ^ 32)) ≤ℤ over.low
  low_from = small.from

  -- nor too far ahead
  pub low_to : over.low ≤ℤ pos (2 ^ 32)
  low_to = omega (arith, ints, small.order, small.to)

  -- nor is the high one too far behind
  pub high_from : neg_ℤ (pos (2 ^ 32)) ≤ℤ over.high
  high_from = omega (arith, ints, small.order, small.from)

  -- nor too far ahead
  pub high_to : over.high ≤ℤ pos (2 ^ 32)
  high_to = small.to

  -- the same of an offset turned
  pub turned_from : (z : ℤ) → z ≤ℤ pos (2 ^ 32) → neg_ℤ (pos (2 ^ 32)) ≤ℤ neg_ℤ z
  turned_from z h = omega (arith, ints, h)

  -- a negated offset keeps within the limits
  pub turned_to : (z : ℤ) → neg_ℤ (pos (2 ^ 32)) ≤ℤ z → neg_ℤ z ≤ℤ pos (2 ^ 32)
  turned_to z h = omega (arith, ints, h)

-- a base may be moved by an offset
pub room : (base by : ℤ) → (neg_ℤ (pos (2 ^ 32)) ≤ℤ base) × (base ≤ℤ pos (2 ^ 33)) → neg_ℤ (pos (2 ^ 32)) ≤ℤ by → by ≤ℤ pos (2 ^ 32)
    → unsigned_abs (base -ℤ by) ≤ 2 ^ 34
room base by (a, b) c d = omega (arith, ints, a, b, c, d)
