-- The laws of shapes, from the laws of affine functions.
use Rattle.std.proofs.Common.{◌⊎◌, inl, inr}
use Rattle.rational.specs.Rational.{add}
use Rattle.rational.specs.Extended.{◌≤ᵉ◌, ◌<ᵉ◌, ◌≈ᵉ◌, opposite, value_at}
use Rattle.rational.proofs.Field.{add_assoc}
use Rattle.rational.proofs.ExtendedLemmas.{le_totalᵉ, le_transᵉ, opposite_le'}
use Rattle.rational.proofs.AffineLemmas
use Rattle.value_laws.specs.Laws.{NegationIsExact, MovesAreExact, OrderIsTotal, MeetOnce, LiesBetween, ComesClose, FixedIsConstant}

-- minus a shape is minus its function
pub negation_is_exact : NegationIsExact
negation_is_exact f g e = (
  (λ t. AffineLemmas.opposite_back (value_at g t) (value_at f t) (e t)),
  λ h k d t l. le_transᵉ (value_at k t) (opposite (value_at h t)) (value_at g t) (d t).at_most
      (le_transᵉ (opposite (value_at h t)) (opposite (value_at f t)) (value_at g t) (opposite_le' (value_at f t) (value_at h t) l) (e t).at_least),
)

-- a moved shape is its function moved
pub moves_are_exact : MovesAreExact
moves_are_exact f g h by back e d t =
    AffineLemmas.same_transᵉ (value_at h t) (value_at g (add t back)) (value_at f (add t (add back by))) (d t)
    (AffineLemmas.same_transᵉ (value_at g (add t back)) (value_at f (add (add t back) by)) (value_at f (add t (add back by))) (e (add t back))
    (AffineLemmas.value_same f (add_assoc t back by)))

-- the order at a time is total
pub order_is_total : OrderIsTotal
order_is_total f g t = by_order (le_totalᵉ (value_at f t) (value_at g t)) (le_totalᵉ (value_at g t) (value_at f t))
  where
    by_order : (value_at f t ≤ᵉ value_at g t) ⊎ (value_at g t <ᵉ value_at f t) → (value_at g t ≤ᵉ value_at f t) ⊎ (value_at f t <ᵉ value_at g t)
        → (value_at f t <ᵉ value_at g t) ⊎ (value_at f t ≈ᵉ value_at g t) ⊎ (value_at g t <ᵉ value_at f t)
    by_order (inl a) (inl b) = inr (inl (record { at_most = a; at_least = b }))
    by_order (inl a) (inr b) = inl b
    by_order (inr a) b = inr (inr a)

-- two shapes that differ meet at most once
pub meet_once : MeetOnce
meet_once f g t u l h k s = record {
  at_most = AffineLemmas.affine_unique f g t u s l h k;
  at_least = AffineLemmas.affine_unique g f t u s l (AffineLemmas.same_symᵉ (value_at f t) (value_at g t) h)
      (AffineLemmas.same_symᵉ (value_at f u) (value_at g u) k);
}

-- a shape lies between its values at the ends
pub lies_between : LiesBetween
lies_between f l t r h k = AffineLemmas.lies_between f l t r h k

-- and comes as close to them as one likes
pub comes_close : ComesClose
comes_close f l r w h = (
  AffineLemmas.near_start f l r w h,
  AffineLemmas.near_stop f l r w h,
  AffineLemmas.above_start f l r w h,
  AffineLemmas.above_stop f l r w h,
)

-- a fixed shape is constant
pub fixed_is_constant : FixedIsConstant
fixed_is_constant f g t h u v = AffineLemmas.same_transᵉ (value_at g u) (value_at f t) (value_at g v) (h u)
    (AffineLemmas.same_symᵉ (value_at g v) (value_at f t) (h v))
