-- Constant functions of whole numbers: their order, and that they neither move nor meet.
use Rattle.std.proofs.Common.{◌≡◌, ℤ, refl}
use Rattle.std.specs.Prelude.{◌<ℤ◌, ◌≤ℤ◌, IsTrue}
use Rattle.std.specs.Int.Signed.{<ℤ_irrefl}
use Rattle.std.specs.declared.cmp.Ordering.{Ordering}
use Rattle.std.specs.declared.cmp.Ordering.TheVariants.{Less, Equal, Greater}
use Rattle.std.specs.Ordering.{MatchOrdering, int_cmp, is_eq}
use Rattle.std.proofs.lemmas.Cmp.{int_ranked}
use Rattle.rational.specs.Rational.{Rational, whole}
use Rattle.rational.specs.Extended.{finite, ◌≈ᵉ◌, ◌≤ᵉ◌, value_at}
use Rattle.rational.specs.Affine.{IsOrderᵉ, IsSteady, AreSame, level}
use Rattle.rational.proofs.Shift.{lt_whole, le_whole}
use Rattle.rational.proofs.Lines.{at_constant}
use Rattle.rational.proofs.ExtendedLemmas.{clashᵉ, le_transᵉ}
use Rattle.rational.proofs.AffineLemmas.{same_reflᵉ, same_symᵉ, same_transᵉ, finite_same, order_sameᵉ}

-- a constant has its number at each time
pub level_is : (n : ℤ) (t : Rational) → value_at (level n) t ≈ᵉ finite (whole n)
level_is n t = finite_same (at_constant (whole n) t)

-- it does not move
pub level_steady : (n : ℤ) → IsSteady (level n)
level_steady n t u = same_transᵉ (value_at (level n) t) (finite (whole n)) (value_at (level n) u) (level_is n t)
    (same_symᵉ (value_at (level n) u) (finite (whole n)) (level_is n u))

-- constants are ordered as their numbers are
pub level_order : (o : Ordering) (n m : ℤ) (t u : Rational) → o ≡ int_cmp n m → IsOrderᵉ o (value_at (level n) t) (value_at (level m) u)
level_order o n m t u e =
    order_sameᵉ o (finite (whole n)) (value_at (level n) t) (finite (whole m)) (value_at (level m) u)
    (same_symᵉ (value_at (level n) t) (finite (whole n)) (level_is n t))
    (same_symᵉ (value_at (level m) u) (finite (whole m)) (level_is m u)) (by_order o (int_ranked n m o e))
  where
    by_order : (o : Ordering) → MatchOrdering o (n <ℤ m) (n ≡ m) (m <ℤ n) → IsOrderᵉ o (finite (whole n)) (finite (whole m))
    by_order Less l = lt_whole l
    by_order Equal l = rw l (same_reflᵉ (finite (whole m)))
    by_order Greater l = lt_whole l

-- constants of one number are one function, and those of two are not
pub same_levels : (n m : ℤ) → n ≡ m → AreSame (level n) (level m)
same_levels n m e t = rw e (same_reflᵉ (value_at (level m) t))

-- constants that are one function have one number
pub one_level : (n m : ℤ) → AreSame (level n) (level m) → n ≡ m
one_level n m h = by_order (int_cmp n m) refl
  where
    by_order : (o : Ordering) → o ≡ int_cmp n m → n ≡ m
    by_order Less e = clashᵉ (value_at (level n) (whole n)) (value_at (level m) (whole n)) (level_order Less n m (whole n) (whole n) e) (h (whole n)).at_least
    by_order Equal e = int_ranked n m Equal e
    by_order Greater e = clashᵉ (value_at (level m) (whole n)) (value_at (level n) (whole n))
        (level_order Greater n m (whole n) (whole n) e) (h (whole n)).at_most

-- a constant is at least what its number is at least
pub level_at_least : (low n : ℤ) (t : Rational) → low ≤ℤ n → finite (whole low) ≤ᵉ value_at (level n) t
level_at_least low n t h = le_transᵉ (finite (whole low)) (finite (whole n)) (value_at (level n) t) (le_whole h) (level_is n t).at_least

-- and at most what its number is at most
pub level_at_most : (high n : ℤ) (t : Rational) → n ≤ℤ high → value_at (level n) t ≤ᵉ finite (whole high)
level_at_most high n t h = le_transᵉ (value_at (level n) t) (finite (whole n)) (finite (whole high)) (level_is n t).at_most (le_whole h)

-- a comparison that answers equal says that the constants are one function
pub level_equal : (o : Ordering) (n m : ℤ) → o ≡ int_cmp n m
    → (IsTrue (is_eq o) → AreSame (level n) (level m)) × (AreSame (level n) (level m) → IsTrue (is_eq o))
level_equal Less n m e = (λ h. cc, λ h. absurd (apart (one_level n m h)))
  where
    apart : n ≡ m → ⊥
    apart s = <ℤ_irrefl (rw s at (int_ranked n m Less e))
level_equal Equal n m e = (λ _. same_levels n m (int_ranked n m Equal e), λ _. refl)
level_equal Greater n m e = (λ h. cc, λ h. absurd (apart (one_level n m h)))
  where
    apart : n ≡ m → ⊥
    apart s = <ℤ_irrefl (rw s at (int_ranked n m Greater e))
