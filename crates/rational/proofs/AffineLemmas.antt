-- Laws of affine and constantly infinite functions.
use Rattle.std.proofs.Common.{◌⊎◌, inl, inr, ℕ, arith}
use Rattle.std.specs.declared.cmp.Ordering.{Ordering}
use Rattle.std.specs.declared.cmp.Ordering.TheVariants.{Less, Equal, Greater}
use Rattle.rational.specs.Rational.{Rational, ◌<ʳ◌, ◌≤ʳ◌, ◌≈◌, middle, negate}
use Rattle.rational.specs.Line.{Line, at, Rises, Falls, Level, negate_line}
use Rattle.rational.specs.Extended.{Extended, minus_infinity, finite, infinity, ◌≤ᵉ◌, ◌<ᵉ◌, ◌≈ᵉ◌}
use Rattle.rational.specs.Extended.{opposite, Affine, always_low, affine, always_high, value_at, Passes}
use Rattle.rational.specs.Affine.{IsOrderᵉ, IsBounded, IsSteady, MeetAlone}
use Rattle.rational.proofs.Order.{le_or_lt, le_of_same, ge_of_same, le_of_lt, same_of_le, not_lt_of_le, lt_of_lt_of_le, left_of_middle, right_of_middle}
use Rattle.rational.proofs.Field.{lt_negate}
use Rattle.rational.proofs.Mixed.{within_same}
use Rattle.rational.proofs.Sup.{near_left}
use Rattle.rational.proofs.Lines.{same_at, same_lines, slope_of, lt_at, lt_at_falls, at_level, at_negate, near_right}
use Rattle.rational.proofs.ExtendedLemmas.{le_totalᵉ, le_reflᵉ, le_transᵉ, clashᵉ, opposite_le', opposite_twice}

-- each value is the same as itself
pub same_reflᵉ : (v : Extended) → v ≈ᵉ v
same_reflᵉ v = record { at_most = le_reflᵉ v; at_least = le_reflᵉ v }

-- and so the other way round
pub same_symᵉ : (v w : Extended) → v ≈ᵉ w → w ≈ᵉ v
same_symᵉ v w h = record { at_most = h.at_least; at_least = h.at_most }

-- values that are the same as one are the same
pub same_transᵉ : (u v w : Extended) → u ≈ᵉ v → v ≈ᵉ w → u ≈ᵉ w
same_transᵉ u v w h k = record { at_most = le_transᵉ u v w h.at_most k.at_most; at_least = le_transᵉ w v u k.at_least h.at_least }

-- equal numbers are the same finite values
pub finite_same : {x y : Rational} → x ≈ y → finite x ≈ᵉ finite y
finite_same e = record { at_most = le_of_same e; at_least = ge_of_same e }

-- and finite values that are the same are equal numbers
pub same_of_finite : {x y : Rational} → finite x ≈ᵉ finite y → x ≈ y
same_of_finite e = same_of_le e.at_most e.at_least

-- a bounded value by another pair
pub bounded_same : (n : ℕ) (v w : Extended) → v ≈ᵉ w → IsBounded n w → IsBounded n v
bounded_same n minus_infinity w e h = tt
bounded_same n (finite x) minus_infinity e h = absurd e.at_most
bounded_same n (finite x) (finite y) e h = within_same n (same_of_le e.at_least e.at_most) h
bounded_same n (finite x) infinity e h = absurd e.at_least
bounded_same n infinity w e h = tt

-- a function passes through its value at a time
pub passes : (f : Affine) (t : Rational) → Passes f t (value_at f t)
passes f t = same_reflᵉ (value_at f t)

-- values that are the same have opposites that are the same
pub opposite_same : (v w : Extended) → v ≈ᵉ w → opposite v ≈ᵉ opposite w
opposite_same v w h = record { at_most = opposite_le' w v h.at_least; at_least = opposite_le' v w h.at_most }

-- a value is the opposite of its opposite
pub opposite_back : (v w : Extended) → v ≈ᵉ opposite w → w ≈ᵉ opposite v
opposite_back v w h = let e = opposite_same v (opposite w) h in same_symᵉ (opposite v) w (rw opposite_twice at e)

-- a function has one value at one time, by whichever pair the time is written
pub value_same : {t u : Rational} (f : Affine) → t ≈ u → value_at f t ≈ᵉ value_at f u
value_same always_low e = record { at_most = tt; at_least = tt }
value_same (affine f) e = finite_same (same_at f e)
value_same always_high e = record { at_most = tt; at_least = tt }

-- equal values are ordered alike
pub order_sameᵉ : (o : Ordering) (v v' w w' : Extended) → v ≈ᵉ v' → w ≈ᵉ w' → IsOrderᵉ o v w → IsOrderᵉ o v' w'
order_sameᵉ Less v v' w w' h k l = elim (le_totalᵉ w' v') [ inl m ↦ clashᵉ v w l (le_transᵉ w w' v k.at_most (le_transᵉ w' v' v m h.at_least)) | inr m ↦ m ]
order_sameᵉ Equal v v' w w' h k l = same_transᵉ v' v w' (same_symᵉ v v' h) (same_transᵉ v w w' l k)
order_sameᵉ Greater v v' w w' h k l = elim (le_totalᵉ v' w') [ inl m ↦ clashᵉ w v l (le_transᵉ v v' w h.at_most (le_transᵉ v' w' w m k.at_least)) | inr m ↦ m ]

-- two functions with one value each do not meet at one time alone
pub steady_never_meet_alone : (f g : Affine) (l r t : Rational) → IsSteady f → IsSteady g → ¬ MeetAlone f g l r t
steady_never_meet_alone f g l r t h k m =
    not_lt_of_le (ge_of_same (m.alone l (same_transᵉ (value_at f l) (value_at f t) (value_at g l) (h l t)
    (same_transᵉ (value_at f t) (value_at g t) (value_at g l) m.meet (k t l))))) m.after

-- two functions with one value at two times have one value at each
pub affine_unique : (f g : Affine) (t u s : Rational) → t <ʳ u → value_at f t ≈ᵉ value_at g t → value_at f u ≈ᵉ value_at g u → value_at f s ≤ᵉ value_at g s
affine_unique (affine f) always_low t u s h j k = absurd j.at_most
affine_unique (affine f) (affine g) t u s h j k = le_of_same (same_lines f g h (same_of_le j.at_most j.at_least) (same_of_le k.at_most k.at_least) s)
affine_unique always_high always_low t u s h j k = absurd j.at_most
affine_unique always_high (affine g) t u s h j k = absurd j.at_most
affine_unique _ _ t u s h j k = tt

-- between two times a function lies between its values there
pub lies_between : (f : Affine) (l t r : Rational) → l <ʳ t → t <ʳ r
    → ((value_at f l ≤ᵉ value_at f t) × (value_at f t ≤ᵉ value_at f r)) ⊎ ((value_at f r ≤ᵉ value_at f t) × (value_at f t ≤ᵉ value_at f l))
lies_between always_low l t r h k = inl (tt, tt)
lies_between always_high l t r h k = inl (tt, tt)
lies_between (affine f) l t r h k = by_slope (slope_of f)
  where
    by_slope : Rises f ⊎ Level f ⊎ Falls f → ((at f l ≤ʳ at f t) × (at f t ≤ʳ at f r)) ⊎ ((at f r ≤ʳ at f t) × (at f t ≤ʳ at f l))
    by_slope (inl p) = inl (le_of_lt (lt_at f p h), le_of_lt (lt_at f p k))
    by_slope (inr (inl p)) = inl (le_of_same (at_level l t f p), le_of_same (at_level t r f p))
    by_slope (inr (inr p)) = inr (le_of_lt (lt_at_falls f p k), le_of_lt (lt_at_falls f p h))

-- between two times a function lies between its values there, the ends with it
pub at_most_an_end : (f : Affine) (a b u : Rational) → a ≤ʳ u → u ≤ʳ b → (value_at f u ≤ᵉ value_at f a) ⊎ (value_at f u ≤ᵉ value_at f b)
at_most_an_end f a b u h k = by_left (le_or_lt u a)
  where
    strictly : a <ʳ u → u <ʳ b → (value_at f u ≤ᵉ value_at f a) ⊎ (value_at f u ≤ᵉ value_at f b)
    strictly h k = elim (lies_between f a u b h k) [ inl m ↦ inr m.1 | inr m ↦ inl m.1 ]

    by_right : a <ʳ u → (b ≤ʳ u) ⊎ (u <ʳ b) → (value_at f u ≤ᵉ value_at f a) ⊎ (value_at f u ≤ᵉ value_at f b)
    by_right h (inl m) = inr (value_same f (same_of_le k m)).at_most
    by_right h (inr m) = strictly h m

    by_left : (u ≤ʳ a) ⊎ (a <ʳ u) → (value_at f u ≤ᵉ value_at f a) ⊎ (value_at f u ≤ᵉ value_at f b)
    by_left (inl m) = inl (value_same f (same_of_le m h)).at_most
    by_left (inr m) = by_right m (le_or_lt b u)

-- and above one of them, the ends with it
pub at_least_an_end : (f : Affine) (a b u : Rational) → a ≤ʳ u → u ≤ʳ b → (value_at f a ≤ᵉ value_at f u) ⊎ (value_at f b ≤ᵉ value_at f u)
at_least_an_end f a b u h k = by_left (le_or_lt u a)
  where
    strictly : a <ʳ u → u <ʳ b → (value_at f a ≤ᵉ value_at f u) ⊎ (value_at f b ≤ᵉ value_at f u)
    strictly h k = elim (lies_between f a u b h k) [ inl m ↦ inl m.0 | inr m ↦ inr m.0 ]

    by_right : a <ʳ u → (b ≤ʳ u) ⊎ (u <ʳ b) → (value_at f a ≤ᵉ value_at f u) ⊎ (value_at f b ≤ᵉ value_at f u)
    by_right h (inl m) = inr (value_same f (same_of_le k m)).at_least
    by_right h (inr m) = strictly h m

    by_left : (u ≤ʳ a) ⊎ (a <ʳ u) → (value_at f a ≤ᵉ value_at f u) ⊎ (value_at f b ≤ᵉ value_at f u)
    by_left (inl m) = inl (value_same f (same_of_le m h)).at_least
    by_left (inr m) = by_right m (le_or_lt b u)

-- a time strictly between at which something holds
abbrev pub Inside : Rational → Rational → (Rational → Type 0) → Type 0
Inside l r P = (t : Rational) × (l <ʳ t) × (t <ʳ r) × P t

at_middle : (l r : Rational) (P : Rational → Type 0) → l <ʳ r → P (middle l r) → Inside l r P
at_middle l r P h p = (middle l r, left_of_middle h, right_of_middle h, p)

-- on an open interval a function comes as close to its values at the ends as one likes, from below and from above
pub near_start : (f : Affine) (l r : Rational) (w : Extended) → l <ʳ r → w <ᵉ value_at f l → Inside l r (λ t. w <ᵉ value_at f t)
near_start always_low l r w h k = at_middle l r (λ t. w <ᵉ minus_infinity) h k
near_start always_high l r w h k = at_middle l r (λ t. w <ᵉ infinity) h k
near_start (affine f) l r minus_infinity h k = at_middle l r (λ t. Unit {0}) h tt
near_start (affine f) l r (finite x) h k = near_left f x h k
near_start (affine f) l r infinity h k = absurd k

-- so from below at the later end
pub near_stop : (f : Affine) (l r : Rational) (w : Extended) → l <ʳ r → w <ᵉ value_at f r → Inside l r (λ t. w <ᵉ value_at f t)
near_stop always_low l r w h k = at_middle l r (λ t. w <ᵉ minus_infinity) h k
near_stop always_high l r w h k = at_middle l r (λ t. w <ᵉ infinity) h k
near_stop (affine f) l r minus_infinity h k = at_middle l r (λ t. Unit {0}) h tt
near_stop (affine f) l r (finite x) h k = near_right f x h k
near_stop (affine f) l r infinity h k = absurd k

above_of_negated : (f : Line) (x t : Rational) → negate x <ʳ at (negate_line f) t → at f t <ʳ x
above_of_negated f x t h = let k = lt_of_lt_of_le h (le_of_same (at_negate f t)) in record { lt = omega (arith, k.lt) }

negated_above : (f : Line) (x t : Rational) → at f t <ʳ x → negate x <ʳ at (negate_line f) t
negated_above f x t h = lt_of_lt_of_le (lt_negate h) (ge_of_same (at_negate f t))

-- from above at the earlier end
pub above_start : (f : Affine) (l r : Rational) (w : Extended) → l <ʳ r → value_at f l <ᵉ w → Inside l r (λ t. value_at f t <ᵉ w)
above_start always_low l r w h k = at_middle l r (λ t. minus_infinity <ᵉ w) h k
above_start always_high l r w h k = absurd k
above_start (affine f) l r minus_infinity h k = absurd k
above_start (affine f) l r (finite x) h k =
    let n = near_left (negate_line f) (negate x) h (negated_above f x l k) in
    (n.0, n.1, n.2, above_of_negated f x n.0 n.3)
above_start (affine f) l r infinity h k = at_middle l r (λ t. Unit {0}) h tt

-- and from above at the later end
pub above_stop : (f : Affine) (l r : Rational) (w : Extended) → l <ʳ r → value_at f r <ᵉ w → Inside l r (λ t. value_at f t <ᵉ w)
above_stop always_low l r w h k = at_middle l r (λ t. minus_infinity <ᵉ w) h k
above_stop always_high l r w h k = absurd k
above_stop (affine f) l r minus_infinity h k = absurd k
above_stop (affine f) l r (finite x) h k =
    let n = near_right (negate_line f) (negate x) h (negated_above f x r k) in
    (n.0, n.1, n.2, above_of_negated f x n.0 n.3)
above_stop (affine f) l r infinity h k = at_middle l r (λ t. Unit {0}) h tt
