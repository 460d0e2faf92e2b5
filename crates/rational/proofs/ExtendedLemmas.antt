-- Laws of the order of extended values, and that a Sup and an Inf are unique.
use Rattle.std.proofs.Common.{◌≡◌, ◌⊎◌, inl, inr, refl, arith}
use Rattle.rational.specs.Time.{Rational, negate, ◌≤ʳ◌}
use Rattle.rational.specs.Extended.{Extended, minus_infinity, finite, infinity, ◌≤ᵉ◌, ◌<ᵉ◌, ◌≈ᵉ◌, opposite, IsLeast, IsGreatest, IsSup, IsInf}
use Rattle.rational.proofs.Order.{le_or_lt, le_of_lt, le_trans, le_refl, not_lt_of_le}
use Rattle.rational.proofs.Field.{le_negate, lt_negate}
use Rattle.rational.proofs.Tests.{either}

-- of two values one is at most the other
pub le_totalᵉ : (v w : Extended) → (v ≤ᵉ w) ⊎ (w <ᵉ v)
le_totalᵉ (finite x) minus_infinity = inr tt
le_totalᵉ (finite x) (finite y) = le_or_lt x y
le_totalᵉ infinity minus_infinity = inr tt
le_totalᵉ infinity (finite y) = inr tt
le_totalᵉ _ _ = inl tt

-- a value below another is not at or above it
pub clashᵉ : {X : Type 0} (v w : Extended) → v <ᵉ w → w ≤ᵉ v → X
clashᵉ minus_infinity (finite y) h k = absurd k
clashᵉ minus_infinity infinity h k = absurd k
clashᵉ (finite x) (finite y) h k = absurd (not_lt_of_le k h)
clashᵉ (finite x) infinity h k = absurd k
clashᵉ _ _ h k = absurd h

-- each value is at most itself
pub le_reflᵉ : (v : Extended) → v ≤ᵉ v
le_reflᵉ minus_infinity = tt
le_reflᵉ (finite x) = le_refl x
le_reflᵉ infinity = tt

-- the order goes on from value to value
pub le_transᵉ : (u v w : Extended) → u ≤ᵉ v → v ≤ᵉ w → u ≤ᵉ w
le_transᵉ minus_infinity v w h k = tt
le_transᵉ (finite x) minus_infinity w h k = absurd h
le_transᵉ (finite x) (finite y) minus_infinity h k = absurd k
le_transᵉ (finite x) (finite y) (finite z) h k = le_trans h k
le_transᵉ (finite x) (finite y) infinity h k = tt
le_transᵉ (finite x) infinity minus_infinity h k = absurd k
le_transᵉ (finite x) infinity (finite z) h k = absurd k
le_transᵉ (finite x) infinity infinity h k = tt
le_transᵉ infinity minus_infinity w h k = absurd h
le_transᵉ infinity (finite y) w h k = absurd h
le_transᵉ infinity infinity w h k = k

-- another way to write values has the same least
pub least_same : (v v' w w' r r' : Extended) → v ≈ᵉ v' → w ≈ᵉ w' → r ≈ᵉ r' → IsLeast v w r → IsLeast v' w' r'
least_same v v' w w' r r' a b c l = record {
  left = le_transᵉ r' r v' c.at_least (le_transᵉ r v v' l.left a.at_most);
  right = le_transᵉ r' r w' c.at_least (le_transᵉ r w w' l.right b.at_most);
  one_of = either (λ h. le_transᵉ v' v r' a.at_least (le_transᵉ v r r' h c.at_most))
      (λ h. le_transᵉ w' w r' b.at_least (le_transᵉ w r r' h c.at_most)) l.one_of;
}

-- another way to write values has the same greatest
pub greatest_same : (v v' w w' r r' : Extended) → v ≈ᵉ v' → w ≈ᵉ w' → r ≈ᵉ r' → IsGreatest v w r → IsGreatest v' w' r'
greatest_same v v' w w' r r' a b c l = record {
  left = le_transᵉ v' v r' a.at_least (le_transᵉ v r r' l.left c.at_most);
  right = le_transᵉ w' w r' b.at_least (le_transᵉ w r r' l.right c.at_most);
  one_of = either (λ h. le_transᵉ r' r v' c.at_least (le_transᵉ r v v' h a.at_most))
      (λ h. le_transᵉ r' r w' c.at_least (le_transᵉ r w w' h b.at_most)) l.one_of;
}

-- a value is not two of which one is below the other
pub not_twoᵉ : {X : Type 0} (v x y : Extended) → v ≈ᵉ x → v ≈ᵉ y → y <ᵉ x → X
not_twoᵉ v x y h k l = clashᵉ y x l (le_transᵉ x v y h.at_least k.at_most)

-- a value below another is at most it
pub le_of_ltᵉ : (v w : Extended) → v <ᵉ w → v ≤ᵉ w
le_of_ltᵉ minus_infinity w h = tt
le_of_ltᵉ (finite x) minus_infinity h = absurd h
le_of_ltᵉ (finite x) (finite y) h = le_of_lt h
le_of_ltᵉ (finite x) infinity h = tt
le_of_ltᵉ infinity w h = absurd h

-- below, and then at most, is below
pub lt_of_lt_of_leᵉ : (u v w : Extended) → u <ᵉ v → v ≤ᵉ w → u <ᵉ w
lt_of_lt_of_leᵉ u v w h k = by_order (le_totalᵉ w u)
  where
    by_order : (w ≤ᵉ u) ⊎ (u <ᵉ w) → u <ᵉ w
    by_order (inl l) = clashᵉ u v h (le_transᵉ v w u k l)
    by_order (inr l) = l

-- at most, and then below, is below
pub lt_of_le_of_ltᵉ : (u v w : Extended) → u ≤ᵉ v → v <ᵉ w → u <ᵉ w
lt_of_le_of_ltᵉ u v w h k = by_order (le_totalᵉ w u)
  where
    by_order : (w ≤ᵉ u) ⊎ (u <ᵉ w) → u <ᵉ w
    by_order (inl l) = clashᵉ v w k (le_transᵉ w u v l h)
    by_order (inr l) = l

-- of two values one is the greatest, and one the least
pub greatest_of : (v w : Extended) → (r : Extended) × IsGreatest v w r
greatest_of v w = elim (le_totalᵉ v w) [
  | inl h ↦ (w, record { left = h; right = le_reflᵉ w; one_of = inr (le_reflᵉ w) })
  | inr h ↦ (v, record { left = le_reflᵉ v; right = le_of_ltᵉ w v h; one_of = inl (le_reflᵉ v) })
]

-- so for the least
pub least_of : (v w : Extended) → (r : Extended) × IsLeast v w r
least_of v w = elim (le_totalᵉ v w) [
  | inl h ↦ (v, record { left = le_reflᵉ v; right = h; one_of = inl (le_reflᵉ v) })
  | inr h ↦ (w, record { left = le_of_ltᵉ w v h; right = le_reflᵉ w; one_of = inr (le_reflᵉ w) })
]

negated_le : (x y : Rational) → negate y ≤ʳ negate x → x ≤ʳ y
negated_le x y h = omega arith

-- opposites are in the opposite order
pub opposite_le : (v w : Extended) → opposite w ≤ᵉ opposite v → v ≤ᵉ w
opposite_le (finite x) minus_infinity h = absurd h
opposite_le (finite x) (finite y) h = negated_le x y h
opposite_le infinity minus_infinity h = absurd h
opposite_le infinity (finite y) h = absurd h
opposite_le _ _ h = tt

-- and in that order from the values' own
pub opposite_le' : (v w : Extended) → v ≤ᵉ w → opposite w ≤ᵉ opposite v
opposite_le' minus_infinity minus_infinity h = tt
opposite_le' (finite x) minus_infinity h = absurd h
opposite_le' (finite x) (finite y) h = le_negate h
opposite_le' infinity minus_infinity h = absurd h
opposite_le' infinity (finite y) h = absurd h
opposite_le' _ _ h = tt

-- so strictly
pub lt_opposite : (v w : Extended) → v <ᵉ w → opposite w <ᵉ opposite v
lt_opposite minus_infinity (finite y) h = tt
lt_opposite minus_infinity infinity h = tt
lt_opposite (finite x) (finite y) h = lt_negate h
lt_opposite (finite x) infinity h = tt
lt_opposite _ _ h = absurd h

-- the opposite of an opposite is the value
pub opposite_twice : (v : Extended) → opposite (opposite v) ≡ v
opposite_twice minus_infinity = refl
opposite_twice _ = refl

-- there is at most one Sup, and at most one Inf
pub Sup-unique : {P : Extended → Type 0} (lowest r r' : Extended) → IsSup lowest P r → IsSup lowest P r' → r ≤ᵉ r'
Sup-unique {P} lowest r r' h k = by_order (le_totalᵉ r r')
  where
    exceeded : (v : Extended) × P v × (r' <ᵉ v) → r ≤ᵉ r'
    exceeded (v, m, l) = clashᵉ r' v l (k.bound v m)

    by_order : (r ≤ᵉ r') ⊎ (r' <ᵉ r) → r ≤ᵉ r'
    by_order (inl l) = l
    by_order (inr l) = exceeded (h.reached r' k.at_least l)

-- so for the Inf
pub Inf-unique : {P : Extended → Type 0} (highest r r' : Extended) → IsInf highest P r → IsInf highest P r' → r ≤ᵉ r'
Inf-unique {P} highest r r' h k = by_order (le_totalᵉ r r')
  where
    undercut : (v : Extended) × P v × (v <ᵉ r) → r ≤ᵉ r'
    undercut (v, m, l) = clashᵉ v r l (h.bound v m)

    by_order : (r ≤ᵉ r') ⊎ (r' <ᵉ r) → r ≤ᵉ r'
    by_order (inl l) = l
    by_order (inr l) = undercut (k.reached r l h.at_most)

-- each value is at most inf
pub below_infinity : (v : Extended) → v ≤ᵉ infinity
below_infinity minus_infinity = tt
below_infinity _ = tt
