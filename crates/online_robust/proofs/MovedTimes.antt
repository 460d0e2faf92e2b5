-- Times moved on and back by a number, and which come before them.
use Rattle.std.proofs.Common.{ℕ, ◌^◌, pos, Bool, arith}
use Rattle.std.specs.Prelude.{neg_ℤ}
use Rattle.rational.specs.Rational.{add, whole}
use Rattle.rational.specs.Time.{Rational, Precedes, shifted, later, ◌≤ʳ◌, ◌<ʳ◌, ◌≈◌}
use Rattle.rational.proofs.Order.{le_of_same, ge_of_same, lt_of_le_of_lt}
use Rattle.rational.proofs.TimeLemmas.{precedes_after, precedes_before, shifted-add}
use Rattle.pieces.proofs.BehindOver as offsets

-- a time moved by a natural number is that much later
pub shifted_pos : (t : Rational) (a : ℕ) → shifted t (pos a) ≈ later t a
shifted_pos t a = omega arith

module _ (b : Bool) (t u : Rational) (a : ℕ) where
  -- what comes before t moved back comes, moved on, before t
  pub before_back : Precedes b u (shifted t (neg_ℤ (pos a))) → Precedes b (later u a) t
  before_back h = offsets.on_of_before b t u a
      (precedes_before b u (shifted t (neg_ℤ (pos a))) (add t (whole (neg_ℤ (pos a)))) h (le_of_same (shifted-add t (neg_ℤ (pos a)))))

  -- what comes, moved on, before t comes before t moved back
  pub back_before : Precedes b (later u a) t → Precedes b u (shifted t (neg_ℤ (pos a)))
  back_before h = precedes_before b u (add t (whole (neg_ℤ (pos a)))) (shifted t (neg_ℤ (pos a)))
      (offsets.before_of_on b t u a h) (ge_of_same (shifted-add t (neg_ℤ (pos a))))

  -- what comes after t moved back comes, moved on, after t
  pub after_back : Precedes b (shifted t (neg_ℤ (pos a))) u → Precedes b t (later u a)
  after_back h = offsets.on_of_back b t u a
      (precedes_after b (add t (whole (neg_ℤ (pos a)))) (shifted t (neg_ℤ (pos a))) u (ge_of_same (shifted-add t (neg_ℤ (pos a)))) h)

  -- what comes, moved on, after t comes after t moved back
  pub back_after : Precedes b t (later u a) → Precedes b (shifted t (neg_ℤ (pos a))) u
  back_after h = precedes_after b (shifted t (neg_ℤ (pos a))) (add t (whole (neg_ℤ (pos a)))) u
      (le_of_same (shifted-add t (neg_ℤ (pos a)))) (offsets.back_of_on b t u a h)

-- no time of a domain lies as far before it as the longest domain
pub none_so_far : (from to : Rational) → whole (pos 0) ≤ʳ from → to <ʳ whole (pos (2 ^ 32))
    → (t u : Rational) → t ≤ʳ to → from ≤ʳ u → shifted t (neg_ℤ (pos (2 ^ 32))) <ʳ u
none_so_far from to first last t u h k =
    lt_of_le_of_lt (le_of_same (shifted-add t (neg_ℤ (pos (2 ^ 32))))) (offsets.none_so_far from to first last t u h k)
