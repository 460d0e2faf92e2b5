-- The greatest items of ranges whose ends don't fall.
use Rattle.std.specs.Prelude.{◌≡◌, ℕ, ◌+◌, ◌≤◌, ◌<◌, List, pos, slice_get, Some}
use Rattle.rational.specs.Rational.{whole}
use Rattle.rational.specs.Extended.{◌≤ᵉ◌, Affine, value_at}

-- the items, the ends of the last range that was asked for, and how many comparisons are accounted for
pub record Range (P : Type 0) : Type 0 where
  pub items : List P
  pub low : ℕ
  pub high : ℕ
  pub spent : ℕ

-- the constant value of x is at most that of y
abbrev pub IsAtMost : {P : Type 0} → (P → Affine) → P → P → Type 0
IsAtMost function x y = value_at (function x) (whole (pos 0)) ≤ᵉ value_at (function y) (whole (pos 0))

-- i is a place from `low` up to, but not including, `high`, and no item at such a place is greater than the one at i
pub record IsGreatestOf {P : Type 0} (function : P → Affine) (items : List P) (low high i : ℕ) : Type 0 where
  pub from : low ≤ i
  pub below : i < high
  pub greatest : (j : ℕ) (x y : P) → low ≤ j → j < high → slice_get items j ≡ Some x → slice_get items i ≡ Some y → IsAtMost function x y

-- the counter rose by at most what is newly accounted for
pub record IsPaid (spent_before spent steps_before steps : ℕ) : Type 0 where
  pub rises : spent_before ≤ spent
  pub paid : steps + spent_before ≤ steps_before + spent
