-- Numbers that a call or a sum of 128 bits hands on: what they are once they were bits.
use Rattle.std.proofs.Common.{◌≡◌, FitsSigned, ◌≤◌, ◌<◌, ◌*◌, ◌^◌, ℤ, ℕ, pos, to_z, of_z, ◌∙◌, sym, subst, refl, to_z-of_z, arith, mul-le-mul}
use Rattle.std.specs.Int.RustNames.{unsigned_abs}
use Rattle.std.proofs.lemmas.Int.{fits_signed_from_abs}
use lib.Signed.{mag}
use mir.Syntax.{w64, w128}

-- a result of 128 bits that is z
pub carried : (r z : ℤ) → mag r < 2 ^ 127 → r ≡ z → to_z w128 (of_z w128 r) ≡ z
carried r z small is = let fits : FitsSigned w128 r = record { sfits = small } in to_z-of_z fits ∙ is

-- one that a number of 64 bits was widened to
pub widened : (r y z : ℤ) → mag r < 2 ^ 127 → r ≡ to_z w64 (of_z w64 y) → FitsSigned w64 y → y ≡ z → to_z w128 (of_z w128 r) ≡ z
widened r y z small is fits same = carried r z small (is ∙ to_z-of_z fits ∙ same)

-- and a small one
pub widened_small : (r z : ℤ) (m : ℕ) → mag r < 2 ^ 127 → r ≡ to_z w64 (of_z w64 z) → unsigned_abs z ≤ m → m < 2 ^ 63 → to_z w128 (of_z w128 r) ≡ z
widened_small r z m small is few below = widened r z z small is (fits_signed_from_abs w64 z (omega arith)) refl

-- a number is no larger than its equal
pub as_small : (x z : ℤ) (m : ℕ) → x ≡ z → unsigned_abs z ≤ m → unsigned_abs x ≤ m
as_small x z m is small = subst (λ y. unsigned_abs y ≤ m) (sym is) small

-- a product of a run and a rest
pub run_times_rest_fits : (run rest : ℕ) → run < 2 ^ 32 → rest ≤ 2 ^ 60 → FitsSigned w128 (pos (run * rest))
run_times_rest_fits run rest small_run small_rest =
    let few : run ≤ 2 ^ 32 = omega arith in
    fits_signed_from_abs w128 (pos (run * rest)) (omega (arith, mul-le-mul few small_rest))
