-- A comparison with 0 depends on the sign alone.
use Rattle.std.proofs.Common.{◌≡◌, ◌≢◌, ◌⊎◌, inl, inr, zero, suc, ℤ, pos, negsuc, ◌<ℤ◌, Bool, true, false, refl, sym, ◌∙◌, arith}
use Rattle.std.proofs.lemmas.Int.{ints}
use Rattle.std.proofs.lemmas.Bool.{true≢false, false≢true}
use Rattle.std.specs.declared.cmp.Ordering.{Ordering}
use Rattle.std.specs.declared.cmp.Ordering.TheVariants.{Less, Equal, Greater}
use Rattle.rational.specs.Rational.{Rational, ◌<ʳ◌, ◌≈◌, whole, IsOrder}
use Rattle.rational.proofs.Order.{lt_or_same_or_gt, lt_of_le_of_lt, lt_of_lt_of_le, le_of_same, ge_of_same, same_trans, same_sym}
use Rattle.stl_syntax.specs.Truth.{compares}
use Rattle.stl_syntax.specs.declared.rel.Rel.{Rel}
use Rattle.stl_syntax.specs.declared.rel.Rel.TheVariants.{AtLeast, Above, AtMost, Below}

-- whether a number of that sign is compared so
abbrev holds_for : Rel → Ordering → Bool
holds_for AtLeast Less = false
holds_for AtLeast Equal = true
holds_for AtLeast Greater = true
holds_for Above Less = false
holds_for Above Equal = false
holds_for Above Greater = true
holds_for AtMost Less = true
holds_for AtMost Equal = true
holds_for AtMost Greater = false
holds_for Below Less = true
holds_for Below Equal = false
holds_for Below Greater = false

by_sign : (rel : Rel) (o : Ordering) (y : Rational) → IsOrder o y (whole (pos 0)) → compares rel y ≡ holds_for rel o
by_sign AtLeast Equal y h = let k = h.same in grind arith
by_sign Above Equal y h = let k = h.same in grind arith
by_sign AtMost Equal y h = let k = h.same in grind arith
by_sign Below Equal y h = let k = h.same in grind arith
by_sign _ _ y h = let k = h.lt in grind arith

-- two numbers of one sign compare alike
pub compare_alike : (rel : Rel) (o : Ordering) (y z : Rational) → IsOrder o y (whole (pos 0)) → IsOrder o z (whole (pos 0)) → compares rel y ≡ compares rel z
compare_alike rel o y z h k = by_sign rel o y h ∙ sym (by_sign rel o z k)

-- a number below 0 and one above do not
turns_over : (rel : Rel) → holds_for rel Less ≢ holds_for rel Greater
turns_over AtLeast e = false≢true e
turns_over Above e = false≢true e
turns_over AtMost e = true≢false e
turns_over Below e = true≢false e

-- and numbers of two signs compare otherwise
pub compare_apart : (rel : Rel) (y z : Rational) → IsOrder Less y (whole (pos 0)) → IsOrder Greater z (whole (pos 0)) → compares rel y ≢ compares rel z
compare_apart rel y z h k e = turns_over rel (sym (by_sign rel Less y h) ∙ e ∙ by_sign rel Greater z k)

-- nor does it depend on the pair
pub compare_same : (rel : Rel) {y z : Rational} → y ≈ z → compares rel y ≡ compares rel z
compare_same rel {y} {z} e = by_order (lt_or_same_or_gt y (whole (pos 0)))
  where
    by_order : (y <ʳ whole (pos 0)) ⊎ (y ≈ whole (pos 0)) ⊎ (whole (pos 0) <ʳ y) → compares rel y ≡ compares rel z
    by_order (inl h) = compare_alike rel Less y z h (lt_of_le_of_lt (ge_of_same e) h)
    by_order (inr (inl h)) = compare_alike rel Equal y z h (same_trans (same_sym e) h)
    by_order (inr (inr h)) = compare_alike rel Greater y z h (lt_of_lt_of_le h (le_of_same e))

-- on which side of 0 a whole number lies
pub sign_of : (z : ℤ) → (z <ℤ pos 0) ⊎ (z ≡ pos 0) ⊎ (pos 0 <ℤ z)
sign_of (pos zero) = inr (inl refl)
sign_of (pos (suc n)) = inr (inr (omega (arith, ints)))
sign_of (negsuc n) = inl (omega (arith, ints))
