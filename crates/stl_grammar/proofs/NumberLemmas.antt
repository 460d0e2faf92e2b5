-- Digits and the numbers that they are.
use Rattle.std.proofs.Common.{◌≡◌, ◌≤◌, ◌^◌, ℕ, zero, suc, ◌-◌, refl, arith}
use Rattle.std.specs.Prelude.{nat_abs, neg_ℤ, pos}
use Rattle.std.proofs.Math.Nat.{pow-le-pow_right}

-- a power of ten up to the sixth
pub small_power : (d k : ℕ) → d ≤ 6 → 10 ^ (d - k) ≤ 1000000
small_power d k h = pow-le-pow_right {n = 10} (omega arith) {i = d - k} {j = 6} (omega (arith, h))

-- the size of minus a number
pub abs_neg : (x : ℕ) → nat_abs (neg_ℤ (pos x)) ≡ x
abs_neg zero = refl
abs_neg (suc x) = refl
