-- Tests of linear sums: whether a sum is above 0, negated and joined. Each is decided, and depends on the first number of a point only by the
-- side on which that lies of finitely many sums of the others, its roots.
use Rattle.std.proofs.Common.{◌⊎◌, ◌↔◌, inl, inr, List, [], ◌∷◌, ◌++◌, pos, arith}
use Rattle.rational.specs.Rational.{Rational, ◌<ʳ◌, ◌≤ʳ◌, ◌≈◌, whole, add, negate, multiply}
use Rattle.rational.proofs.Order.{same_refl, same_sym, same_trans, le_refl, le_or_lt, le_of_same, ge_of_same, not_lt_of_le, lt_irrefl}
use Rattle.rational.proofs.Order.{lt_trans, lt_of_lt_of_le, lt_of_le_of_lt, lt_or_same_or_gt}
use Rattle.rational.proofs.Field.{same_add, same_mul, same_negate, lt_mul, lt_add_left, inverse}
use Rattle.rational.proofs.Tests.{either as by_either}
use Rattle.values_exist.proofs.Sums.{Sum, alone, plus, value, nought, nothing_first, scale, scale_value}

-- a test of a point
pub data Test : Type 0 where
  above : Sum → Test
  opposite : Test → Test
  both : Test → Test → Test
  either : Test → Test → Test

-- the point passes it
abbrev pub Passes : Test → List Rational → Type 0
Passes (above f) point = nought <ʳ value f point
Passes (opposite φ) point = ¬ Passes φ point
Passes (both φ ψ) point = Passes φ point × Passes ψ point
Passes (either φ ψ) point = Passes φ point ⊎ Passes ψ point

-- a point passes a test or does not
pub decide : (φ : Test) (point : List Rational) → Passes φ point ⊎ (¬ Passes φ point)
decide (above f) point = by_order (le_or_lt (value f point) nought)
  where
    by_order : (value f point ≤ʳ nought) ⊎ (nought <ʳ value f point) → (nought <ʳ value f point) ⊎ (¬ (nought <ʳ value f point))
    by_order (inl h) = inr (not_lt_of_le h)
    by_order (inr h) = inl h
decide (opposite φ) point = by_inner (decide φ point)
  where
    by_inner : Passes φ point ⊎ (¬ Passes φ point) → (¬ Passes φ point) ⊎ (¬ ¬ Passes φ point)
    by_inner (inl h) = inr (λ n. n h)
    by_inner (inr n) = inl n
decide (both φ ψ) point = by_inner (decide φ point) (decide ψ point)
  where
    by_inner : Passes φ point ⊎ (¬ Passes φ point) → Passes ψ point ⊎ (¬ Passes ψ point)
        → (Passes φ point × Passes ψ point) ⊎ (¬ (Passes φ point × Passes ψ point))
    by_inner (inl h) (inl k) = inl (h, k)
    by_inner (inl h) (inr n) = inr (λ m. n m.1)
    by_inner (inr n) k = inr (λ m. n m.0)
decide (either φ ψ) point = by_inner (decide φ point) (decide ψ point)
  where
    by_inner : Passes φ point ⊎ (¬ Passes φ point) → Passes ψ point ⊎ (¬ Passes ψ point)
        → (Passes φ point ⊎ Passes ψ point) ⊎ (¬ (Passes φ point ⊎ Passes ψ point))
    by_inner (inl h) k = inl (inl h)
    by_inner (inr n) (inl k) = inl (inr k)
    by_inner (inr n) (inr m) = inr (λ d. elim d [ inl h ↦ n h | inr k ↦ m k ])

-- what is not denied is so
pub undenied : (φ : Test) (point : List Rational) → ¬ ¬ Passes φ point → Passes φ point
undenied φ point n = elim (decide φ point) [ inl h ↦ h | inr m ↦ absurd (n m) ]

-- the test with each sum changed
abbrev pub changed : (Sum → Sum) → Test → Test
changed g (above f) = above (g f)
changed g (opposite φ) = opposite (changed g φ)
changed g (both φ ψ) = both (changed g φ) (changed g ψ)
changed g (either φ ψ) = either (changed g φ) (changed g ψ)

-- where changed sums at one point have the values of the sums at another, the tests pass alike
pub changed_alike : (g : Sum → Sum) (point other : List Rational) → ((f : Sum) → value (g f) point ≈ value f other)
    → (φ : Test) → Passes (changed g φ) point ↔ Passes φ other
changed_alike g point other same (above f) =
    (λ h. lt_of_lt_of_le h (le_of_same (same f)), λ h. lt_of_lt_of_le h (ge_of_same (same f)))
changed_alike g point other same (opposite φ) =
    let i = changed_alike g point other same φ in (λ n h. n (i.1 h), λ n h. n (i.0 h))
changed_alike g point other same (both φ ψ) =
    let i = changed_alike g point other same φ in
    let j = changed_alike g point other same ψ in
    (λ h. (i.0 h.0, j.0 h.1), λ h. (i.1 h.0, j.1 h.1))
changed_alike g point other same (either φ ψ) =
    let i = changed_alike g point other same φ in
    let j = changed_alike g point other same ψ in
    (λ h. by_either i.0 j.0 h, λ h. by_either i.1 j.1 h)

-- two numbers are one number, or lie on one side of a third
abbrev pub IsOneSide : Rational → Rational → Rational → Type 0
IsOneSide x y r = (x ≈ y) ⊎ ((x <ʳ r) × (y <ʳ r)) ⊎ ((r <ʳ x) × (r <ʳ y))

one_side_back : (x y r : Rational) → IsOneSide x y r → IsOneSide y x r
one_side_back x y r (inl e) = inl (same_sym e)
one_side_back x y r (inr (inl (h, k))) = inr (inl (k, h))
one_side_back x y r (inr (inr (h, k))) = inr (inr (k, h))

-- two numbers lie so with each of a list of sums
abbrev pub AreOneSide : Rational → Rational → List Rational → List Sum → Type 0
AreOneSide x y point [] = Unit {0}
AreOneSide x y point (g ∷ roots) = IsOneSide x y (value g point) × AreOneSide x y point roots

one_sides_back : (x y : Rational) (point : List Rational) (roots : List Sum) → AreOneSide x y point roots → AreOneSide y x point roots
one_sides_back x y point [] h = tt
one_sides_back x y point (g ∷ roots) (h, k) = (one_side_back x y (value g point) h, one_sides_back x y point roots k)

of_front : (x y : Rational) (point : List Rational) (roots more : List Sum) → AreOneSide x y point (roots ++ more) → AreOneSide x y point roots
of_front x y point [] more h = tt
of_front x y point (g ∷ roots) more (h, k) = (h, of_front x y point roots more k)

of_back : (x y : Rational) (point : List Rational) (roots more : List Sum) → AreOneSide x y point (roots ++ more) → AreOneSide x y point more
of_back x y point [] more h = h
of_back x y point (g ∷ roots) more (h, k) = of_back x y point roots more k

at_root : (c d a : Rational) → multiply c d ≈ whole (pos 1) → add (multiply c (multiply (negate d) a)) a ≈ nought
at_root c d a e = same_trans (same_add (moved c d a) (same_refl a)) (same_trans (same_add (same_mul (same_negate e) (same_refl a)) (same_refl a)) (gone a))
  where
    moved : (c d a : Rational) → multiply c (multiply (negate d) a) ≈ multiply (negate (multiply c d)) a
    moved c d a = omega arith

    gone : (a : Rational) → add (multiply (negate (whole (pos 1))) a) a ≈ nought
    gone a = omega arith

opposite_above : {c : Rational} → c <ʳ nought → nought <ʳ negate c
opposite_above p = omega arith

falls : (c x y : Rational) → c <ʳ nought → x <ʳ y → multiply c y <ʳ multiply c x
falls c x y p h = back c x y (lt_mul (negate c) (opposite_above p) h)
  where
    back : (c x y : Rational) → multiply (negate c) x <ʳ multiply (negate c) y → multiply c y <ʳ multiply c x
    back c x y h = omega arith

-- with a factor that is not 0 the sum is above 0 on one side of its root
by_side : (c x y r a : Rational) → (c <ʳ nought) ⊎ (nought <ʳ c) → add (multiply c r) a ≈ nought → IsOneSide x y r
    → nought <ʳ add (multiply c x) a → nought <ʳ add (multiply c y) a
by_side c x y r a s z (inl e) h = lt_of_lt_of_le h (le_of_same (same_add (same_mul (same_refl c) e) (same_refl a)))
by_side c x y r a (inl p) z (inr (inl (k, l))) h =
    lt_of_le_of_lt (ge_of_same z) (lt_add_left (falls c y r p l) (le_refl a))
by_side c x y r a (inl p) z (inr (inr (k, l))) h =
    absurd (lt_irrefl (lt_trans h (lt_of_lt_of_le (lt_add_left (falls c r x p k) (le_refl a)) (le_of_same z))))
by_side c x y r a (inr p) z (inr (inl (k, l))) h =
    absurd (lt_irrefl (lt_trans h (lt_of_lt_of_le (lt_add_left (lt_mul c p k) (le_refl a)) (le_of_same z))))
by_side c x y r a (inr p) z (inr (inr (k, l))) h =
    lt_of_le_of_lt (ge_of_same z) (lt_add_left (lt_mul c p l) (le_refl a))

-- a sum whose test of being above 0 depends on the first number only by its side
abbrev HasRoot : Sum → Type 0
HasRoot f = (g : Sum) × ((point : List Rational) (x y : Rational) → IsOneSide x y (value g point)
    → nought <ʳ value f (x ∷ point) → nought <ʳ value f (y ∷ point))

root_by : (c d : Rational) (f : Sum) → (c <ʳ nought) ⊎ (nought <ʳ c) → multiply c d ≈ whole (pos 1) → HasRoot (plus c f)
root_by c d f s e = (scale (negate d) f, λ point x y side h. by_side c x y (value (scale (negate d) f) point) (value f point) s (zero point) side h)
  where
    zero : (point : List Rational) → add (multiply c (value (scale (negate d) f) point)) (value f point) ≈ nought
    zero point = same_trans (same_add (same_mul (same_refl c) (scale_value (negate d) f point)) (same_refl (value f point))) (at_root c d (value f point) e)

negative_inverse : (c d : Rational) → multiply (negate c) d ≈ whole (pos 1) → multiply c (negate d) ≈ whole (pos 1)
negative_inverse c d e = same_trans (swapped c d) e
  where
    swapped : (c d : Rational) → multiply c (negate d) ≈ multiply (negate c) d
    swapped c d = omega arith

-- each sum has a root
root_of : (f : Sum) → HasRoot f
root_of (alone k) = (alone k, λ point x y side h. h)
root_of (plus c f) = by_sign (lt_or_same_or_gt c nought)
  where
    nothing : (c x a : Rational) → c ≈ nought → add (multiply c x) a ≈ a
    nothing c x a e = same_trans (same_add (same_mul e (same_refl x)) (same_refl a)) (nothing_first x a)

    by_sign : (c <ʳ nought) ⊎ (c ≈ nought) ⊎ (nought <ʳ c) → HasRoot (plus c f)
    by_sign (inl p) = let i = inverse (negate c) (opposite_above p) in root_by c (negate i.0) f (inl p) (negative_inverse c i.0 i.1)
    by_sign (inr (inl e)) = (
      alone c,
      λ point x y side h. lt_of_lt_of_le h
          (le_of_same (same_trans (nothing c x (value f point) e) (same_sym (nothing c y (value f point) e)))),
    )
    by_sign (inr (inr p)) = let i = inverse c p in root_by c i.0 f (inr p) i.1

-- sums of which the test depends on the first number only by its sides
abbrev pub HasRoots : Test → Type 0
HasRoots φ = (roots : List Sum) × ((point : List Rational) (x y : Rational) → AreOneSide x y point roots
    → Passes φ (x ∷ point) → Passes φ (y ∷ point))

-- each test has roots
pub roots_of : (φ : Test) → HasRoots φ
roots_of (above f) = let r = root_of f in (r.0 ∷ [], λ point x y s h. r.1 point x y s.0 h)
roots_of (opposite φ) = let r = roots_of φ in
    (r.0, λ point x y s n h. n (r.1 point y x (one_sides_back x y point r.0 s) h))
roots_of (both φ ψ) = let r = roots_of φ in let q = roots_of ψ in
    (r.0 ++ q.0, λ point x y s h. (r.1 point x y (of_front x y point r.0 q.0 s) h.0, q.1 point x y (of_back x y point r.0 q.0 s) h.1))
roots_of (either φ ψ) = let r = roots_of φ in let q = roots_of ψ in
    (r.0 ++ q.0, λ point x y s h. by_either (r.1 point x y (of_front x y point r.0 q.0 s)) (q.1 point x y (of_back x y point r.0 q.0 s)) h)
