-- Whether some number from l to h passes a test with a point is itself a test of the point.
use Rattle.std.proofs.Common.{◌⊎◌, ◌↔◌, inl, inr, List, [], ◌∷◌, pos, negsuc, arith}
use Rattle.rational.specs.Rational.{Rational, ◌<ʳ◌, ◌≤ʳ◌, ◌≈◌, whole, add, negate, multiply, middle}
use Rattle.rational.specs.Time.{Within}
use Rattle.rational.proofs.Order.{same_refl, same_sym, same_trans, same_of_le, le_or_lt, le_of_same, ge_of_same, lt_irrefl, lt_trans}
use Rattle.rational.proofs.Order.{lt_of_lt_of_le, lt_of_le_of_lt, lt_or_same_or_gt, left_of_middle, right_of_middle}
use Rattle.rational.proofs.Field.{same_add, same_mul}
use Rattle.values_exist.proofs.Sums.{Sum, alone, plus, value, nought, half, put, put_value, middle_sum, middle_value}
use Rattle.values_exist.proofs.LinearTests.{Test, above, opposite, both, either, Passes, changed, changed_alike, IsOneSide, AreOneSide, roots_of}

-- x lies strictly between a and b, or all three are one
abbrev IsBracket : Rational → Rational → Rational → Type 0
IsBracket a b x = ((a <ʳ x) × (x <ʳ b)) ⊎ ((a ≈ x) × (b ≈ x))

-- y is x, or lies between a and b as x does
abbrev AreBetween : Rational → Rational → Rational → Rational → Type 0
AreBetween a b x y = (x ≈ y) ⊎ ((a <ʳ x) × (x <ʳ b) × (a <ʳ y) × (y <ʳ b))

-- some middle of two of the sums, a below and b above or roots in their places, passes in the first number's place
abbrev some_middle : Test → Sum → Sum → List Sum → Test
some_middle φ a b [] = changed (put (middle_sum a b)) φ
some_middle φ a b (r ∷ roots) =
    either (some_middle φ r b roots) (either (some_middle φ a r roots) (either (some_middle φ r r roots) (some_middle φ a b roots)))

-- what passes so is a number that passes
found : (φ : Test) (a b : Sum) (roots : List Sum) (point : List Rational) → Passes (some_middle φ a b roots) point
    → (x : Rational) × Passes φ (x ∷ point)
found φ a b [] point h =
    let g : Sum = middle_sum a b in
    (value g point, (changed_alike (put g) point (value g point ∷ point) (λ f. put_value g f point) φ).0 h)
found φ a b (r ∷ roots) point (inl h) = found φ r b roots point h
found φ a b (r ∷ roots) point (inr (inl h)) = found φ a r roots point h
found φ a b (r ∷ roots) point (inr (inr (inl h))) = found φ r r roots point h
found φ a b (r ∷ roots) point (inr (inr (inr h))) = found φ a b roots point h

middle_of_one : (a b x : Rational) → a ≈ x → b ≈ x → x ≈ middle a b
middle_of_one a b x e f = same_trans (one x) (same_trans (same_mul (same_refl half) (same_add (same_sym e) (same_sym f))) (halves a b))
  where
    one : (x : Rational) → x ≈ multiply half (add x x)
    one x = omega arith

    halves : (a b : Rational) → multiply half (add a b) ≈ middle a b
    halves a b = omega arith

-- a bracketed number has the middle between as itself
middle_between : (a b x y : Rational) → y ≈ middle a b → IsBracket a b x → AreBetween a b x y
middle_between a b x y e (inl (h, k)) =
    let l = lt_trans h k in
    inr (h, k, lt_of_lt_of_le (left_of_middle l) (ge_of_same e), lt_of_le_of_lt (le_of_same e) (right_of_middle l))
middle_between a b x y e (inr (f, g)) = inl (same_trans (middle_of_one a b x f g) (same_sym e))

-- where all numbers between as x, and on its side of the roots, pass, some middle does
abbrev Finds : Test → List Sum → List Rational → Rational → Type 0
Finds φ roots point x = (a b : Sum) → IsBracket (value a point) (value b point) x
    → ((y : Rational) → AreBetween (value a point) (value b point) x y → AreOneSide x y point roots → Passes φ (y ∷ point))
    → Passes (some_middle φ a b roots) point

finds_last : (φ : Test) (point : List Rational) (x : Rational) → Finds φ [] point x
finds_last φ point x a b i k =
    let g : Sum = middle_sum a b in
    (changed_alike (put g) point (value g point ∷ point) (λ f. put_value g f point) φ).1
    (k (value g point) (middle_between (value a point) (value b point) x (value g point) (middle_value a b point) i) tt)

finds_more : (φ : Test) (r : Sum) (roots : List Sum) (point : List Rational) (x : Rational) → Finds φ roots point x → Finds φ (r ∷ roots) point x
finds_more φ r roots point x finds a b (inr (e, f)) k = inr (inr (inr (finds a b (inr (e, f)) on)))
  where
    one : (y : Rational) → AreBetween (value a point) (value b point) x y → x ≈ y
    one y (inl s) = s
    one y (inr (h, l, i, j)) = absurd (lt_irrefl (lt_of_le_of_lt (ge_of_same e) h))

    on : (y : Rational) → AreBetween (value a point) (value b point) x y → AreOneSide x y point roots → Passes φ (y ∷ point)
    on y m s = k y m (inl (one y m), s)
finds_more φ r roots point x finds a b (inl (h, l)) k =
    by_root (lt_or_same_or_gt (value r point) x) (le_or_lt (value r point) (value a point)) (le_or_lt (value b point) (value r point))
  where
    low_side : value r point ≤ʳ value a point → (y : Rational) → AreBetween (value a point) (value b point) x y → IsOneSide x y (value r point)
    low_side m y (inl s) = inl s
    low_side m y (inr (c, d, e, f)) = inr (inr (lt_of_le_of_lt m c, lt_of_le_of_lt m e))

    high_side : value b point ≤ʳ value r point → (y : Rational) → AreBetween (value a point) (value b point) x y → IsOneSide x y (value r point)
    high_side m y (inl s) = inl s
    high_side m y (inr (c, d, e, f)) = inr (inl (lt_of_lt_of_le d m, lt_of_lt_of_le f m))

    raised : value a point <ʳ value r point → (y : Rational) → AreBetween (value r point) (value b point) x y
        → AreBetween (value a point) (value b point) x y × IsOneSide x y (value r point)
    raised m y (inl s) = (inl s, inl s)
    raised m y (inr (c, d, e, f)) = (inr (lt_trans m c, d, lt_trans m e, f), inr (inr (c, e)))

    lowered : value r point <ʳ value b point → (y : Rational) → AreBetween (value a point) (value r point) x y
        → AreBetween (value a point) (value b point) x y × IsOneSide x y (value r point)
    lowered m y (inl s) = (inl s, inl s)
    lowered m y (inr (c, d, e, f)) = (inr (c, lt_trans d m, e, lt_trans f m), inr (inl (d, f)))

    met : value r point ≈ x → (y : Rational) → AreBetween (value r point) (value r point) x y → x ≈ y
    met e y (inl s) = s
    met e y (inr (c, d, i, j)) = absurd (lt_irrefl (lt_of_le_of_lt (ge_of_same e) c))

    by_root : (value r point <ʳ x) ⊎ (value r point ≈ x) ⊎ (x <ʳ value r point) → (value r point ≤ʳ value a point) ⊎ (value a point <ʳ value r point)
        → (value b point ≤ʳ value r point) ⊎ (value r point <ʳ value b point) → Passes (some_middle φ a b (r ∷ roots)) point
    by_root (inl m) (inl c) _ = inr (inr (inr (finds a b (inl (h, l)) (λ y n s. k y n (low_side c y n, s)))))
    by_root (inl m) (inr c) _ = inl (finds r b (inl (m, l)) (λ y n s. let d = raised c y n in k y d.0 (d.1, s)))
    by_root (inr (inl e)) _ _ = inr (inr (inl (finds r r (inr (e, e)) (λ y n s. let d = met e y n in k y (inl d) (inl d, s)))))
    by_root (inr (inr m)) _ (inl c) = inr (inr (inr (finds a b (inl (h, l)) (λ y n s. k y n (high_side c y n, s)))))
    by_root (inr (inr m)) _ (inr c) = inr (inl (finds a r (inl (h, m)) (λ y n s. let d = lowered c y n in k y d.0 (d.1, s))))

some_passes : (φ : Test) (roots : List Sum) (point : List Rational) (x : Rational) → Finds φ roots point x
some_passes φ [] point x = finds_last φ point x
some_passes φ (r ∷ roots) point x = finds_more φ r roots point x (some_passes φ roots point x)

-- the first number lies from l to h
abbrev pub in_stretch : Rational → Rational → Test
in_stretch l h = both (opposite (above (plus (whole (negsuc 0)) (alone l)))) (opposite (above (plus (whole (pos 1)) (alone (negate h)))))

-- a number passes it where it lies there
pub stretch_passes : (l h x : Rational) (point : List Rational) → Passes (in_stretch l h) (x ∷ point) ↔ Within l h x
stretch_passes l h x point = (λ p. record { above = above_in l x p.0; below = below_in h x p.1 }, λ w. (above_out l x w.above, below_out h x w.below))
  where
    above_in : (l x : Rational) → ¬ (nought <ʳ add (multiply (whole (negsuc 0)) x) l) → l ≤ʳ x
    above_in l x n = elim (le_or_lt l x) [ inl k ↦ k | inr k ↦ absurd (n (omega arith)) ]

    below_in : (h x : Rational) → ¬ (nought <ʳ add (multiply (whole (pos 1)) x) (negate h)) → x ≤ʳ h
    below_in h x n = elim (le_or_lt x h) [ inl k ↦ k | inr k ↦ absurd (n (omega arith)) ]

    above_out : (l x : Rational) → l ≤ʳ x → ¬ (nought <ʳ add (multiply (whole (negsuc 0)) x) l)
    above_out l x k m = omega arith

    below_out : (h x : Rational) → x ≤ʳ h → ¬ (nought <ʳ add (multiply (whole (pos 1)) x) (negate h))
    below_out h x k m = omega arith

-- the first number lies there, and passes
abbrev within_test : Rational → Rational → Test → Test
within_test l h φ = both (in_stretch l h) φ

-- some number from l to h passes with the point
abbrev pub somewhere : Rational → Rational → Test → Test
somewhere l h φ =
    let ψ : Test = within_test l h φ in
    let roots : List Sum = (roots_of ψ).0 in
    either (some_middle ψ (alone l) (alone h) roots) (either (some_middle ψ (alone l) (alone l) roots) (some_middle ψ (alone h) (alone h) roots))

-- a point passes that test just where there is such a number
pub somewhere_passes : (l h : Rational) (φ : Test) (point : List Rational)
    → Passes (somewhere l h φ) point ↔ ((x : Rational) × Within l h x × Passes φ (x ∷ point))
somewhere_passes l h φ point = (out, λ p. into p.0 p.1 p.2 (le_or_lt p.0 l) (le_or_lt h p.0))
  where
    number : ((x : Rational) × Passes (within_test l h φ) (x ∷ point)) → (x : Rational) × Within l h x × Passes φ (x ∷ point)
    number (x, p) = (x, (stretch_passes l h x point).0 p.0, p.1)

    out : Passes (somewhere l h φ) point → (x : Rational) × Within l h x × Passes φ (x ∷ point)
    out (inl p) = number (found (within_test l h φ) (alone l) (alone h) (roots_of (within_test l h φ)).0 point p)
    out (inr (inl p)) = number (found (within_test l h φ) (alone l) (alone l) (roots_of (within_test l h φ)).0 point p)
    out (inr (inr p)) = number (found (within_test l h φ) (alone h) (alone h) (roots_of (within_test l h φ)).0 point p)

    all : (x : Rational) → Within l h x → Passes φ (x ∷ point) → (a b : Rational) (y : Rational) → AreBetween a b x y
        → AreOneSide x y point (roots_of (within_test l h φ)).0 → Passes (within_test l h φ) (y ∷ point)
    all x w p a b y m s = (roots_of (within_test l h φ)).1 point x y s ((stretch_passes l h x point).1 w, p)

    into : (x : Rational) → Within l h x → Passes φ (x ∷ point) → (x ≤ʳ l) ⊎ (l <ʳ x) → (h ≤ʳ x) ⊎ (x <ʳ h) → Passes (somewhere l h φ) point
    into x w p (inl c) d = let e = same_of_le w.above c in
        inr (inl (some_passes (within_test l h φ) (roots_of (within_test l h φ)).0 point x (alone l) (alone l) (inr (e, e)) (all x w p l l)))
    into x w p (inr c) (inl d) = let e = same_of_le d w.below in
        inr (inr (some_passes (within_test l h φ) (roots_of (within_test l h φ)).0 point x (alone h) (alone h) (inr (e, e)) (all x w p h h)))
    into x w p (inr c) (inr d) =
        inl (some_passes (within_test l h φ) (roots_of (within_test l h φ)).0 point x (alone l) (alone h) (inl (c, d)) (all x w p l h))
