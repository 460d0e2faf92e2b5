-- The edge of a set of numbers: the value that all of them are at most, and below which all numbers are among them. A test whose numbers go
-- on downward has an edge.
use Rattle.std.proofs.Common.{◌⊎◌, inl, inr, List, [], ◌∷◌, pos, subst, arith, mul-pos}
use Rattle.rational.specs.Rational.{Rational, ◌<ʳ◌, ◌≤ʳ◌, whole, add, subtract, negate, middle}
use Rattle.rational.specs.Extended.{Extended, minus_infinity, finite, infinity, ◌≤ᵉ◌, ◌<ᵉ◌, opposite, IsLeast, IsGreatest}
use Rattle.rational.proofs.Order.{le_or_lt, left_of_middle, right_of_middle}
use Rattle.rational.proofs.ExtendedLemmas.{le_totalᵉ, clashᵉ, le_transᵉ, lt_of_lt_of_leᵉ, lt_of_le_of_ltᵉ, le_of_ltᵉ, lt_opposite, opposite_twice}
use Rattle.values_exist.proofs.Sums.{Sum, value}
use Rattle.values_exist.proofs.LinearTests.{Test, Passes, decide, AreOneSide, IsOneSide, roots_of}

-- r is the edge of the numbers that C describes
pub record IsEdge (C : Rational → Type 0) (r : Extended) : Type 0 where
  -- all of them are at most r
  pub bound : (x : Rational) → C x → finite x ≤ᵉ r
  -- and each number below r is one of them
  pub reached : (x : Rational) → finite x <ᵉ r → C x

-- between two values there is a number
pub number_between : (v w : Extended) → v <ᵉ w → (m : Rational) × (v <ᵉ finite m) × (finite m <ᵉ w)
number_between minus_infinity minus_infinity h = absurd h
number_between minus_infinity (finite y) h = (subtract y (whole (pos 1)), tt, less y)
  where
    less : (y : Rational) → subtract y (whole (pos 1)) <ʳ y
    less y = record { lt = omega (arith, mul-pos y.positive y.positive) }
number_between minus_infinity infinity h = (whole (pos 0), tt, tt)
number_between (finite x) minus_infinity h = absurd h
number_between (finite x) (finite y) h = (middle x y, left_of_middle h, right_of_middle h)
number_between (finite x) infinity h = (add x (whole (pos 1)), more x, tt)
  where
    more : (x : Rational) → x <ʳ add x (whole (pos 1))
    more x = record { lt = omega (arith, mul-pos x.positive x.positive) }
number_between infinity w h = absurd h

-- sets with the same members have one edge
pub edge_alike : {C D : Rational → Type 0} (r : Extended) → ((x : Rational) → C x → D x) → ((x : Rational) → D x → C x) → IsEdge C r → IsEdge D r
edge_alike r forth back h = record { bound = λ x d. h.bound x (back x d); reached = λ x l. forth x (h.reached x l) }

-- a number below one of a set with an edge is of the set
pub edge_downward : {C : Rational → Type 0} (r : Extended) → IsEdge C r → (x y : Rational) → x <ʳ y → C y → C x
edge_downward r h x y l c = h.reached x (lt_of_lt_of_leᵉ (finite x) (finite y) r l (h.bound y c))

-- the numbers up to a value have it for their edge
pub edge_of_value : (r : Extended) → IsEdge (λ x. finite x ≤ᵉ r) r
edge_of_value r = record { bound = λ x h. h; reached = λ x h. le_of_ltᵉ (finite x) r h }

-- the edge of what is in both sets is the least of the edges
pub edge_of_least : {C D : Rational → Type 0} (v w r : Extended) → IsLeast v w r → IsEdge C v → IsEdge D w → IsEdge (λ x. C x × D x) r
edge_of_least {C} {D} v w r l h k = record {
  bound = λ x m. by_one x (h.bound x m.0) (k.bound x m.1) l.one_of;
  reached = λ x m. (h.reached x (lt_of_lt_of_leᵉ (finite x) r v m l.left), k.reached x (lt_of_lt_of_leᵉ (finite x) r w m l.right));
}
  where
    by_one : (x : Rational) → finite x ≤ᵉ v → finite x ≤ᵉ w → (v ≤ᵉ r) ⊎ (w ≤ᵉ r) → finite x ≤ᵉ r
    by_one x a b (inl c) = le_transᵉ (finite x) v r a c
    by_one x a b (inr c) = le_transᵉ (finite x) w r b c

-- and that of what is in one of them the greatest
pub edge_of_greatest : {C D : Rational → Type 0} (v w r : Extended) → IsGreatest v w r → IsEdge C v → IsEdge D w → IsEdge (λ x. C x ⊎ D x) r
edge_of_greatest {C} {D} v w r l h k = record { bound = bound; reached = λ x m. by_one x m l.one_of }
  where
    bound : (x : Rational) → C x ⊎ D x → finite x ≤ᵉ r
    bound x (inl c) = le_transᵉ (finite x) v r (h.bound x c) l.left
    bound x (inr d) = le_transᵉ (finite x) w r (k.bound x d) l.right

    by_one : (x : Rational) → finite x <ᵉ r → (r ≤ᵉ v) ⊎ (r ≤ᵉ w) → C x ⊎ D x
    by_one x m (inl c) = inl (h.reached x (lt_of_lt_of_leᵉ (finite x) r v m c))
    by_one x m (inr c) = inr (k.reached x (lt_of_lt_of_leᵉ (finite x) r w m c))

-- the numbers whose opposites are not in the set have the opposite edge
pub edge_of_opposite : {C : Rational → Type 0} (r : Extended) → IsEdge C r → IsEdge (λ x. ¬ C (negate x)) (opposite r)
edge_of_opposite {C} r h = record {
  bound = λ x n. by_order x n (le_totalᵉ (finite x) (opposite r));
  reached = λ x l c. clashᵉ r (finite (negate x)) (turned x l) (h.bound (negate x) c);
}
  where
    turned : (x : Rational) → finite x <ᵉ opposite r → r <ᵉ finite (negate x)
    turned x l = subst (λ v. v <ᵉ finite (negate x)) (opposite_twice r) (lt_opposite (finite x) (opposite r) l)

    turned_up : (x : Rational) → opposite r <ᵉ finite x → finite (negate x) <ᵉ r
    turned_up x l = subst (λ v. finite (negate x) <ᵉ v) (opposite_twice r) (lt_opposite (opposite r) (finite x) l)

    by_order : (x : Rational) → ¬ C (negate x) → (finite x ≤ᵉ opposite r) ⊎ (opposite r <ᵉ finite x) → finite x ≤ᵉ opposite r
    by_order x n (inl l) = l
    by_order x n (inr l) = absurd (n (h.reached (negate x) (turned_up x l)))

lt_transᵉ : (u v w : Extended) → u <ᵉ v → v <ᵉ w → u <ᵉ w
lt_transᵉ u v w h k = lt_of_lt_of_leᵉ u v w h (le_of_ltᵉ v w k)

-- x and y lie strictly between two values
abbrev BothBetween : Extended → Extended → Rational → Rational → Type 0
BothBetween a b x y = (a <ᵉ finite x) × (finite x <ᵉ b) × (a <ᵉ finite y) × (finite y <ᵉ b)

-- a set that goes on downward, is decided, has all numbers below a and none above b, and in between changes at roots alone, has an edge
abbrev FindsEdge : (Rational → Type 0) → List Rational → List Sum → Type 0
FindsEdge C point roots = (a b : Extended) → a <ᵉ b → ((x : Rational) → finite x <ᵉ a → C x) → ((x : Rational) → b <ᵉ finite x → ¬ C x)
    → ((x y : Rational) → BothBetween a b x y → AreOneSide x y point roots → C x → C y)
    → (r : Extended) × IsEdge C r

module _ (C : Rational → Type 0) (point : List Rational) (decided : (x : Rational) → C x ⊎ (¬ C x))
    (downward : (x y : Rational) → x <ʳ y → C y → C x) where
  finds_last : FindsEdge C point []
  finds_last a b order low high steady = by_middle (number_between a b order)
    where
      upper : (m : Rational) → a <ᵉ finite m → finite m <ᵉ b → C m → IsEdge C b
      upper m l h c = record { bound = λ x d. at_most x d (le_totalᵉ (finite x) b); reached = λ x k. below x k (le_or_lt m x) }
        where
          at_most : (x : Rational) → C x → (finite x ≤ᵉ b) ⊎ (b <ᵉ finite x) → finite x ≤ᵉ b
          at_most x d (inl k) = k
          at_most x d (inr k) = absurd (high x k d)

          below : (x : Rational) → finite x <ᵉ b → (m ≤ʳ x) ⊎ (x <ʳ m) → C x
          below x k (inl n) = steady m x (l, h, lt_of_lt_of_leᵉ a (finite m) (finite x) l n, k) tt c
          below x k (inr n) = downward x m n c

      lower : (m : Rational) → a <ᵉ finite m → finite m <ᵉ b → ¬ C m → IsEdge C a
      lower m l h c = record { bound = λ x d. at_most x d (le_totalᵉ (finite x) a) (le_or_lt x m); reached = low }
        where
          at_most : (x : Rational) → C x → (finite x ≤ᵉ a) ⊎ (a <ᵉ finite x) → (x ≤ʳ m) ⊎ (m <ʳ x) → finite x ≤ᵉ a
          at_most x d (inl k) n = k
          at_most x d (inr k) (inl n) = absurd (c (steady x m (k, lt_of_le_of_ltᵉ (finite x) (finite m) b n h, l, h) tt d))
          at_most x d (inr k) (inr n) = absurd (c (downward m x n d))

      by_test : (m : Rational) → a <ᵉ finite m → finite m <ᵉ b → C m ⊎ (¬ C m) → (r : Extended) × IsEdge C r
      by_test m l h (inl c) = (b, upper m l h c)
      by_test m l h (inr c) = (a, lower m l h c)

      by_middle : (m : Rational) × (a <ᵉ finite m) × (finite m <ᵉ b) → (r : Extended) × IsEdge C r
      by_middle (m, l, h) = by_test m l h (decided m)

  finds_more : (r : Sum) (roots : List Sum) → FindsEdge C point roots → FindsEdge C point (r ∷ roots)
  finds_more r roots finds a b order low high steady =
      by_place (le_totalᵉ (finite (value r point)) a) (le_totalᵉ b (finite (value r point))) (decided (value r point))
    where
      by_place : (finite (value r point) ≤ᵉ a) ⊎ (a <ᵉ finite (value r point)) → (b ≤ᵉ finite (value r point)) ⊎ (finite (value r point) <ᵉ b)
          → C (value r point) ⊎ (¬ C (value r point)) → (r : Extended) × IsEdge C r
      by_place (inl k) m d = finds a b order low high (λ x y n s. steady x y n (side x y n, s))
        where
          side : (x y : Rational) → BothBetween a b x y → IsOneSide x y (value r point)
          side x y (c, d, e, f) =
              inr (inr (lt_of_le_of_ltᵉ (finite (value r point)) a (finite x) k c, lt_of_le_of_ltᵉ (finite (value r point)) a (finite y) k e))
      by_place (inr k) (inl m) d = finds a b order low high (λ x y n s. steady x y n (side x y n, s))
        where
          side : (x y : Rational) → BothBetween a b x y → IsOneSide x y (value r point)
          side x y (c, d, e, f) =
              inr (inl (lt_of_lt_of_leᵉ (finite x) b (finite (value r point)) d m, lt_of_lt_of_leᵉ (finite y) b (finite (value r point)) f m))
      by_place (inr k) (inr m) (inl c) = finds (finite (value r point)) b m (λ x l. downward x (value r point) l c) high
          (λ x y n s. steady x y (between x y n) (inr (inr (n.0, n.2)), s))
        where
          between : (x y : Rational) → BothBetween (finite (value r point)) b x y → BothBetween a b x y
          between x y (c, d, e, f) = (lt_transᵉ a (finite (value r point)) (finite x) k c, d, lt_transᵉ a (finite (value r point)) (finite y) k e, f)
      by_place (inr k) (inr m) (inr c) = finds a (finite (value r point)) k low (λ x l d. c (downward (value r point) x l d))
          (λ x y n s. steady x y (between x y n) (inr (inl (n.1, n.3)), s))
        where
          between : (x y : Rational) → BothBetween a (finite (value r point)) x y → BothBetween a b x y
          between x y (c, d, e, f) = (c, lt_transᵉ (finite x) (finite (value r point)) b d m, e, lt_transᵉ (finite y) (finite (value r point)) b f m)

  finds : (roots : List Sum) → FindsEdge C point roots
  finds [] = finds_last
  finds (r ∷ roots) = finds_more r roots (finds roots)

-- the numbers that pass a test with a point have an edge, where they go on downward
pub edge_of_test : (φ : Test) (point : List Rational) → ((x y : Rational) → x <ʳ y → Passes φ (y ∷ point) → Passes φ (x ∷ point))
    → (r : Extended) × IsEdge (λ x. Passes φ (x ∷ point)) r
edge_of_test φ point downward =
    let r = roots_of φ in
    finds (λ x. Passes φ (x ∷ point)) point (λ x. decide φ (x ∷ point)) downward r.0 minus_infinity infinity tt (λ x h. absurd h) (λ x h. absurd h)
    (λ x y n s. r.1 point x y s)
