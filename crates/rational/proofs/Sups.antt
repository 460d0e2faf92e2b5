-- Laws of Sup and Inf: of unions, of negated sets, and of a line over a window.
use Rattle.std.proofs.Common.{◌⊎◌, inl, inr, sym, subst}
use Rattle.rational.specs.Rational.{negate, middle, ◌≤ʳ◌, ◌<ʳ◌}
use Rattle.rational.specs.Time.{Rational, Within, IsIn, gap}
use Rattle.rational.specs.Line.{Line, Rises, Level, Falls, at, negate_line}
use Rattle.rational.specs.Extended.{Extended, minus_infinity, finite, infinity, ◌≤ᵉ◌, ◌<ᵉ◌, ◌≈ᵉ◌, opposite, IsLeast, IsGreatest, IsSup, IsInf, affine, Passes}
use Rattle.rational.specs.Windows.{Window, IsSupOver, IsInfOver}
use Rattle.rational.proofs.Order.{le_refl, le_of_lt, le_of_same, ge_of_same, le_or_lt, same_of_le, left_of_middle, right_of_middle}
use Rattle.rational.proofs.Lines.{same_at, near_right, at_negate, slope_of, lt_at, lt_at_falls}
use Rattle.rational.proofs.Sup.{near_left, below_an_end}
use Rattle.rational.proofs.ExtendedLemmas.{clashᵉ, le_reflᵉ, le_transᵉ, lt_of_lt_of_leᵉ, lt_of_le_of_ltᵉ}
use Rattle.rational.proofs.ExtendedLemmas.{lt_opposite, opposite_le, opposite_le', opposite_twice}

-- sets with the same members have one Sup
pub sup_same : {P Q : Extended → Type 0} {lowest r : Extended} → ((v : Extended) → P v → Q v) → ((v : Extended) → Q v → P v)
    → IsSup lowest P r → IsSup lowest Q r
sup_same i j h = record {
  at_least = h.at_least;
  bound = λ v m. h.bound v (j v m);
  reached = λ w k l. let x = h.reached w k l in (x.0, i x.0 x.1, x.2);
}

-- so for the Inf
pub inf_same : {P Q : Extended → Type 0} {highest r : Extended} → ((v : Extended) → P v → Q v) → ((v : Extended) → Q v → P v)
    → IsInf highest P r → IsInf highest Q r
inf_same i j h = record {
  at_most = h.at_most;
  bound = λ v m. h.bound v (j v m);
  reached = λ w k l. let x = h.reached w k l in (x.0, i x.0 x.1, x.2);
}

-- one value by two pairs is one Sup
pub sup_value_same : {P : Extended → Type 0} {lowest : Extended} (r s : Extended) → r ≈ᵉ s → IsSup lowest P r → IsSup lowest P s
sup_value_same {P} {lowest} r s e h = record {
  at_least = le_transᵉ lowest r s h.at_least e.at_most;
  bound = λ v m. le_transᵉ v r s (h.bound v m) e.at_most;
  reached = λ w k l. h.reached w k (lt_of_lt_of_leᵉ w s r l e.at_least);
}

-- so for the Inf
pub inf_value_same : {P : Extended → Type 0} {highest : Extended} (r s : Extended) → r ≈ᵉ s → IsInf highest P r → IsInf highest P s
inf_value_same {P} {highest} r s e h = record {
  at_most = le_transᵉ s r highest e.at_least h.at_most;
  bound = λ v m. le_transᵉ s r v e.at_least (h.bound v m);
  reached = λ w k l. h.reached w (lt_of_le_of_ltᵉ r s w e.at_most k) l;
}

-- the Sup of no values, and the Inf
pub sup_of_none : {P : Extended → Type 0} (lowest : Extended) → ((v : Extended) → ¬ (P v)) → IsSup lowest P lowest
sup_of_none lowest n = record { at_least = le_reflᵉ lowest; bound = λ v m. absurd (n v m); reached = λ w k l. clashᵉ w lowest l k }

-- the Inf of no values is the greatest value
pub inf_of_none : {P : Extended → Type 0} (highest : Extended) → ((v : Extended) → ¬ (P v)) → IsInf highest P highest
inf_of_none highest n = record { at_most = le_reflᵉ highest; bound = λ v m. absurd (n v m); reached = λ w k l. clashᵉ highest w k l }

-- the Sup of a union is the greatest of the Sups
pub sup_of_union : {P Q : Extended → Type 0} {lowest : Extended} (a b r : Extended) → IsSup lowest P a → IsSup lowest Q b
    → IsGreatest a b r → IsSup lowest (λ v. P v ⊎ Q v) r
sup_of_union {P} {Q} {lowest} a b r h k g = record {
  at_least = le_transᵉ lowest a r h.at_least g.left;
  bound = bound;
  reached = λ w l m. by_one w l m g.one_of;
}
  where
    bound : (v : Extended) → P v ⊎ Q v → v ≤ᵉ r
    bound v (inl m) = le_transᵉ v a r (h.bound v m) g.left
    bound v (inr m) = le_transᵉ v b r (k.bound v m) g.right

    by_one : (w : Extended) → lowest ≤ᵉ w → w <ᵉ r → (r ≤ᵉ a) ⊎ (r ≤ᵉ b) → (v : Extended) × (P v ⊎ Q v) × (w <ᵉ v)
    by_one w l m (inl e) = let x = h.reached w l (lt_of_lt_of_leᵉ w r a m e) in (x.0, inl x.1, x.2)
    by_one w l m (inr e) = let x = k.reached w l (lt_of_lt_of_leᵉ w r b m e) in (x.0, inr x.1, x.2)

-- the Inf of a union is the least of the Infs
pub inf_of_union : {P Q : Extended → Type 0} {highest : Extended} (a b r : Extended) → IsInf highest P a → IsInf highest Q b
    → IsLeast a b r → IsInf highest (λ v. P v ⊎ Q v) r
inf_of_union {P} {Q} {highest} a b r h k g = record {
  at_most = le_transᵉ r a highest g.left h.at_most;
  bound = bound;
  reached = λ w l m. by_one w l m g.one_of;
}
  where
    bound : (v : Extended) → P v ⊎ Q v → r ≤ᵉ v
    bound v (inl m) = le_transᵉ r a v g.left (h.bound v m)
    bound v (inr m) = le_transᵉ r b v g.right (k.bound v m)

    by_one : (w : Extended) → r <ᵉ w → w ≤ᵉ highest → (a ≤ᵉ r) ⊎ (b ≤ᵉ r) → (v : Extended) × (P v ⊎ Q v) × (v <ᵉ w)
    by_one w l m (inl e) = let x = h.reached w (lt_of_le_of_ltᵉ a r w e l) m in (x.0, inl x.1, x.2)
    by_one w l m (inr e) = let x = k.reached w (lt_of_le_of_ltᵉ b r w e l) m in (x.0, inr x.1, x.2)

-- a window that holds all times strictly between l and r, and none outside
pub record Spans (W : Window) (l r : Rational) : Type 0 where
  -- the ends are in order
  pub order : l <ʳ r
  -- each time strictly between them is in the window
  pub inner : (u : Rational) → l <ʳ u → u <ʳ r → W u
  -- each time of the window lies from l to r
  pub outer : (u : Rational) → W u → Within l r u

below_an_end_closed : {l t r : Rational} (f : Line) → Within l r t → (at f t ≤ʳ at f l) ⊎ (at f t ≤ʳ at f r)
below_an_end_closed {l} {t} {r} f w = by_left (le_or_lt t l)
  where
    by_right : l <ʳ t → (r ≤ʳ t) ⊎ (t <ʳ r) → (at f t ≤ʳ at f l) ⊎ (at f t ≤ʳ at f r)
    by_right h (inl k) = inr (le_of_same (same_at f (same_of_le w.below k)))
    by_right h (inr k) = below_an_end f h k

    by_left : (t ≤ʳ l) ⊎ (l <ʳ t) → (at f t ≤ʳ at f l) ⊎ (at f t ≤ʳ at f r)
    by_left (inl h) = inl (le_of_same (same_at f (same_of_le h w.above)))
    by_left (inr h) = by_right h (le_or_lt r t)

passes_at : (f : Line) (t : Rational) → Passes (affine f) t (finite (at f t))
passes_at f t = record { at_most = le_refl (at f t); at_least = le_refl (at f t) }

near_end : (f : Line) (l r : Rational) (w : Extended) → l <ʳ r → (w <ᵉ finite (at f l)) ⊎ (w <ᵉ finite (at f r))
    → (t : Rational) × (l <ʳ t) × (t <ʳ r) × (w <ᵉ finite (at f t))
near_end f l r minus_infinity h k = (middle l r, left_of_middle h, right_of_middle h, tt)
near_end f l r (finite x) h (inl k) = near_left f x h k
near_end f l r (finite x) h (inr k) = near_right f x h k
near_end f l r infinity h (inl k) = absurd k
near_end f l r infinity h (inr k) = absurd k

-- the Sup of a line over such a window is the greater of its values at the ends, reached or not
pub sup_of_line : {W : Window} {l r : Rational} (lowest s : Extended) (f : Line) → Spans W l r → lowest ≤ᵉ s
    → IsGreatest (finite (at f l)) (finite (at f r)) s → IsSupOver lowest W (Passes (affine f)) s
sup_of_line {W} {l} {r} lowest s f on h g = record { at_least = h; bound = bound; reached = λ w k m. near w m g.one_of }
  where
    at_end : (t : Rational) → (at f t ≤ʳ at f l) ⊎ (at f t ≤ʳ at f r) → finite (at f t) ≤ᵉ s
    at_end t (inl k) = le_transᵉ (finite (at f t)) (finite (at f l)) s k g.left
    at_end t (inr k) = le_transᵉ (finite (at f t)) (finite (at f r)) s k g.right

    bound : (v : Extended) → ((u : Rational) × W u × Passes (affine f) u v) → v ≤ᵉ s
    bound v (u, m, p) = le_transᵉ v (finite (at f u)) s p.at_most (at_end u (below_an_end_closed f (on.outer u m)))

    found : (w : Extended) → ((t : Rational) × (l <ʳ t) × (t <ʳ r) × (w <ᵉ finite (at f t)))
        → (v : Extended) × ((u : Rational) × W u × Passes (affine f) u v) × (w <ᵉ v)
    found w (t, a, b, k) = (finite (at f t), (t, on.inner t a b, passes_at f t), k)

    near : (w : Extended) → w <ᵉ s → (s ≤ᵉ finite (at f l)) ⊎ (s ≤ᵉ finite (at f r))
        → (v : Extended) × ((u : Rational) × W u × Passes (affine f) u v) × (w <ᵉ v)
    near w m (inl e) = found w (near_end f l r w on.order (inl (lt_of_lt_of_leᵉ w s (finite (at f l)) m e)))
    near w m (inr e) = found w (near_end f l r w on.order (inr (lt_of_lt_of_leᵉ w s (finite (at f r)) m e)))

-- the Inf is minus the Sup of the negated values
pub inf_of_opposite : {P : Extended → Type 0} (highest r : Extended) → IsSup (opposite highest) (λ v. P (opposite v)) (opposite r) → IsInf highest P r
inf_of_opposite {P} highest r h = record {
  at_most = opposite_le r highest h.at_least;
  bound = λ v m. opposite_le r v (h.bound (opposite v) (subst P (sym (opposite_twice v)) m));
  reached = λ w k l. turned w (h.reached (opposite w) (opposite_le' w highest l) (lt_opposite r w k));
}
  where
    turned : (w : Extended) → ((v : Extended) × P (opposite v) × (opposite w <ᵉ v)) → (v : Extended) × P v × (v <ᵉ w)
    turned w (v, m, k) = (opposite v, m, subst (λ x. opposite v <ᵉ x) (opposite_twice w) (lt_opposite (opposite w) v k))

passes_negated : (f : Line) (u : Rational) (v : Extended) → Passes (affine (negate_line f)) u v → Passes (affine f) u (opposite v)
passes_negated f u v p = record {
  at_most = opposite_le (opposite v) (finite (at f u)) (subst (λ x. finite (negate (at f u)) ≤ᵉ x) (sym (opposite_twice v))
      (le_transᵉ (finite (negate (at f u))) (finite (at (negate_line f) u)) v (ge_of_same (at_negate f u)) p.at_least));
  at_least = opposite_le (finite (at f u)) (opposite v) (subst (λ x. x ≤ᵉ finite (negate (at f u))) (sym (opposite_twice v))
      (le_transᵉ v (finite (at (negate_line f) u)) (finite (negate (at f u))) p.at_most (le_of_same (at_negate f u))));
}

negated_passes : (f : Line) (u : Rational) (v : Extended) → Passes (affine f) u (opposite v) → Passes (affine (negate_line f)) u v
negated_passes f u v p = record {
  at_most = le_transᵉ v (finite (negate (at f u))) (finite (at (negate_line f) u))
      (subst (λ x. x ≤ᵉ finite (negate (at f u))) (opposite_twice v) (opposite_le' (finite (at f u)) (opposite v) p.at_least))
      (ge_of_same (at_negate f u));
  at_least = le_transᵉ (finite (at (negate_line f) u)) (finite (negate (at f u))) v (le_of_same (at_negate f u))
      (subst (λ x. finite (negate (at f u)) ≤ᵉ x) (opposite_twice v) (opposite_le' (opposite v) (finite (at f u)) p.at_most));
}

greatest_of_least : (f : Line) (l r : Rational) (s : Extended) → IsLeast (finite (at f l)) (finite (at f r)) s
    → IsGreatest (finite (at (negate_line f) l)) (finite (at (negate_line f) r)) (opposite s)
greatest_of_least f l r s h = record {
  left = le_transᵉ (finite (at (negate_line f) l)) (finite (negate (at f l))) (opposite s) (le_of_same (at_negate f l))
      (opposite_le' s (finite (at f l)) h.left);
  right = le_transᵉ (finite (at (negate_line f) r)) (finite (negate (at f r))) (opposite s) (le_of_same (at_negate f r))
      (opposite_le' s (finite (at f r)) h.right);
  one_of = by_one h.one_of;
}
  where
    by_one : (finite (at f l) ≤ᵉ s) ⊎ (finite (at f r) ≤ᵉ s) → (opposite s ≤ᵉ finite (at (negate_line f) l)) ⊎ (opposite s ≤ᵉ finite (at (negate_line f) r))
    by_one (inl k) = inl (le_transᵉ (opposite s) (finite (negate (at f l))) (finite (at (negate_line f) l))
        (opposite_le' (finite (at f l)) s k) (ge_of_same (at_negate f l)))
    by_one (inr k) = inr (le_transᵉ (opposite s) (finite (negate (at f r))) (finite (at (negate_line f) r))
        (opposite_le' (finite (at f r)) s k) (ge_of_same (at_negate f r)))

-- the Inf is the lesser of the values at the ends
pub inf_of_line : {W : Window} {l r : Rational} (highest s : Extended) (f : Line) → Spans W l r → s ≤ᵉ highest
    → IsLeast (finite (at f l)) (finite (at f r)) s → IsInfOver highest W (Passes (affine f)) s
inf_of_line {W} {l} {r} highest s f on h g =
    inf_of_opposite highest s
    (sup_same into back (sup_of_line (opposite highest) (opposite s) (negate_line f) on (opposite_le' s highest h) (greatest_of_least f l r s g)))
  where
    into : (v : Extended) → ((u : Rational) × W u × Passes (affine (negate_line f)) u v) → (u : Rational) × W u × Passes (affine f) u (opposite v)
    into v (u, m, p) = (u, m, passes_negated f u v p)

    back : (v : Extended) → ((u : Rational) × W u × Passes (affine f) u (opposite v)) → (u : Rational) × W u × Passes (affine (negate_line f)) u v
    back v (u, m, p) = (u, m, negated_passes f u v p)

-- strictly between its ends a line that is not level lies below the Sup, and above the Inf
pub below_sup : {l u r : Rational} (s : Extended) (f : Line) → ¬ (Level f) → l <ʳ u → u <ʳ r
    → IsGreatest (finite (at f l)) (finite (at f r)) s → finite (at f u) <ᵉ s
below_sup {l} {u} {r} s f n h k g = by_slope (slope_of f)
  where
    by_slope : Rises f ⊎ Level f ⊎ Falls f → finite (at f u) <ᵉ s
    by_slope (inl p) = lt_of_lt_of_leᵉ (finite (at f u)) (finite (at f r)) s (lt_at f p k) g.right
    by_slope (inr (inl p)) = absurd (n p)
    by_slope (inr (inr p)) = lt_of_lt_of_leᵉ (finite (at f u)) (finite (at f l)) s (lt_at_falls f p h) g.left

-- so above the Inf
pub above_inf : {l u r : Rational} (s : Extended) (f : Line) → ¬ (Level f) → l <ʳ u → u <ʳ r
    → IsLeast (finite (at f l)) (finite (at f r)) s → s <ᵉ finite (at f u)
above_inf {l} {u} {r} s f n h k g = by_slope (slope_of f)
  where
    by_slope : Rises f ⊎ Level f ⊎ Falls f → s <ᵉ finite (at f u)
    by_slope (inl p) = lt_of_le_of_ltᵉ s (finite (at f l)) (finite (at f u)) g.left (lt_at f p h)
    by_slope (inr (inl p)) = absurd (n p)
    by_slope (inr (inr p)) = lt_of_le_of_ltᵉ s (finite (at f r)) (finite (at f u)) g.right (lt_at_falls f p k)

-- an open interval is such a window
pub spans_gap : (l r : Rational) → l <ʳ r → Spans (IsIn (gap l r)) l r
spans_gap l r h = record {
  order = h;
  inner = λ u a b. record { above = a; below = b };
  outer = λ u m. record { above = le_of_lt m.above; below = le_of_lt m.below };
}
