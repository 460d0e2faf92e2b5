-- A signal has one value at each time of its domain, and none outside.
use Rattle.std.proofs.Common.{◌≡◌, ℕ, zero, suc, ◌+◌, ◌≤◌, ◌⊎◌, inl, inr, List, [], ◌∷◌, Some, None, refl, sym, subst, ap, arith}
use Rattle.std.specs.Prelude.{slice_get}
use Rattle.rational.specs.Time.{Rational, Within, ◌≤ʳ◌, ◌<ʳ◌, ◌≈◌}
use Rattle.rational.specs.Extended.{Extended, Affine, Passes, value_at, ◌≈ᵉ◌}
use Rattle.rational.proofs.Order.{le_or_lt, lt_or_same_or_gt, le_refl, le_of_lt, le_of_same, ge_of_same, le_trans, lt_trans}
use Rattle.rational.proofs.Order.{lt_of_lt_of_le, lt_of_le_of_lt, not_lt_of_le, same_sym, same_trans, same_of_le}
use Rattle.rational.proofs.AffineLemmas.{same_reflᵉ, same_transᵉ, same_symᵉ, value_same}
use Rattle.value_laws.specs.Members.{ShapeOf}
use Rattle.pl_signal.specs.declared.knot.Knot.{Knot}
use Rattle.pl_signal.specs.Knots.{time, start, stop, HasShape, Each, IsWorth, IsKnot, IsSignal}

-- one Option has one content
pub some_is : {X : Type 0} {a b : X} → Some a ≡ Some b → a ≡ b
some_is h = cc

module _ {P : Type 0} (shape : ShapeOf P) where
  -- the last knot is not before the first
  pub to_stop : (k : Knot P) (ks : List (Knot P)) → Each (IsKnot shape) (k ∷ ks) → time k ≤ʳ stop (k ∷ ks)
  to_stop k [] h = le_refl (time k)
  to_stop k (n ∷ ks) (h, hs) = le_trans (le_of_lt h.rising) (to_stop n ks hs)

  -- nothing is worth anything before the first knot
  pub not_before : (k : Knot P) (ks : List (Knot P)) (t : Rational) (v : Extended) → Each (IsKnot shape) (k ∷ ks) → IsWorth shape (k ∷ ks) t v → time k ≤ʳ t
  not_before k ks t v h (inl w) = ge_of_same w.when
  not_before k [] t v h (inr (inl w)) = absurd w
  not_before k [] t v h (inr (inr w)) = absurd w
  not_before k (n ∷ ks) t v h (inr (inl w)) = le_of_lt w.after
  not_before k (n ∷ ks) t v h (inr (inr w)) = le_trans (le_of_lt h.0.rising) (not_before n ks t v h.1 w)

  -- nor after the last
  pub not_after : (k : Knot P) (ks : List (Knot P)) (t : Rational) (v : Extended) → Each (IsKnot shape) (k ∷ ks) → IsWorth shape (k ∷ ks) t v
      → t ≤ʳ stop (k ∷ ks)
  not_after k ks t v h (inl w) = le_trans (le_of_same w.when) (to_stop k ks h)
  not_after k [] t v h (inr (inl w)) = absurd w
  not_after k [] t v h (inr (inr w)) = absurd w
  not_after k (n ∷ ks) t v h (inr (inl w)) = le_trans (le_of_lt w.before) (to_stop n ks h.1)
  not_after k (n ∷ ks) t v h (inr (inr w)) = not_after n ks t v h.1 w

  -- a signal has values in its domain alone
  pub worth_within : (ks : List (Knot P)) (t : Rational) (v : Extended) → IsSignal shape ks → IsWorth shape ks t v → Within (start ks) (stop ks) t
  worth_within [] t v s w = absurd w
  worth_within (k ∷ ks) t v s w = record { above = not_before k ks t v s.each w; below = not_after k ks t v s.each w }

  value_from : (k : Knot P) (ks : List (Knot P)) (t : Rational) → Each (IsKnot shape) (k ∷ ks) → time k ≤ʳ t → t ≤ʳ stop (k ∷ ks) → (v : Extended)
      × IsWorth shape (k ∷ ks) t v
  value_from k [] t h a b =
      (value_at (shape.function k.point) t, inl (record { when = same_of_le b a; worth = same_reflᵉ (value_at (shape.function k.point) t) }))
  value_from k (n ∷ ks) t h a b = by_next (λ c. value_from n ks t h.1 c b) (le_or_lt (time n) t)
    where
      by_first : t <ʳ time n → (t <ʳ time k) ⊎ (t ≈ time k) ⊎ (time k <ʳ t) → (v : Extended) × IsWorth shape (k ∷ n ∷ ks) t v
      by_first c (inl d) = absurd (not_lt_of_le a d)
      by_first c (inr (inl e)) = (value_at (shape.function k.point) t, inl (record { when = e; worth = same_reflᵉ (value_at (shape.function k.point) t) }))
      by_first c (inr (inr d)) =
          (value_at (shape.function k.after) t, inr (inl (record { after = d; before = c; worth = same_reflᵉ (value_at (shape.function k.after) t) })))

      by_next : (time n ≤ʳ t → (v : Extended) × IsWorth shape (n ∷ ks) t v) → (time n ≤ʳ t) ⊎ (t <ʳ time n) → (v : Extended) × IsWorth shape (k ∷ n ∷ ks) t v
      by_next later (inl c) = let w = later c in (w.0, inr (inr w.1))
      by_next later (inr c) = by_first c (lt_or_same_or_gt t (time k))

  -- and one at each time of it
  pub every_time : (ks : List (Knot P)) (t : Rational) → IsSignal shape ks → Within (start ks) (stop ks) t → (v : Extended) × IsWorth shape ks t v
  every_time [] t s w = let some = s.some in absurd (omega arith)
  every_time (k ∷ ks) t s w = value_from k ks t s.each w.above w.below

  alike : (f : Affine) (t : Rational) (v w : Extended) → Passes f t v → Passes f t w → v ≈ᵉ w
  alike f t v w a b = same_transᵉ v (value_at f t) w a (same_symᵉ w (value_at f t) b)

  one_from : (k : Knot P) (ks : List (Knot P)) (t : Rational) (v w : Extended) → Each (IsKnot shape) (k ∷ ks) → IsWorth shape (k ∷ ks) t v
      → IsWorth shape (k ∷ ks) t w → v ≈ᵉ w
  one_from k ks t v w h (inl a) (inl b) = alike (shape.function k.point) t v w a.worth b.worth
  one_from k [] t v w h (inr (inl a)) b = absurd a
  one_from k [] t v w h (inr (inr a)) b = absurd a
  one_from k [] t v w h (inl a) (inr (inl b)) = absurd b
  one_from k [] t v w h (inl a) (inr (inr b)) = absurd b
  one_from k (n ∷ ks) t v w h (inl a) (inr (inl b)) = absurd (not_lt_of_le (le_of_same a.when) b.after)
  one_from k (n ∷ ks) t v w h (inl a) (inr (inr b)) = absurd (not_lt_of_le (le_trans (not_before n ks t w h.1 b) (le_of_same a.when)) h.0.rising)
  one_from k (n ∷ ks) t v w h (inr (inl a)) (inl b) = absurd (not_lt_of_le (le_of_same b.when) a.after)
  one_from k (n ∷ ks) t v w h (inr (inl a)) (inr (inl b)) = alike (shape.function k.after) t v w a.worth b.worth
  one_from k (n ∷ ks) t v w h (inr (inl a)) (inr (inr b)) = absurd (not_lt_of_le (not_before n ks t w h.1 b) a.before)
  one_from k (n ∷ ks) t v w h (inr (inr a)) (inl b) = absurd (not_lt_of_le (le_trans (not_before n ks t v h.1 a) (le_of_same b.when)) h.0.rising)
  one_from k (n ∷ ks) t v w h (inr (inr a)) (inr (inl b)) = absurd (not_lt_of_le (not_before n ks t v h.1 a) b.before)
  one_from k (n ∷ ks) t v w h (inr (inr a)) (inr (inr b)) = one_from n ks t v w h.1 a b

  -- a signal has one value at a time
  pub one_value : (ks : List (Knot P)) (t : Rational) (v w : Extended) → IsSignal shape ks → IsWorth shape ks t v → IsWorth shape ks t w → v ≈ᵉ w
  one_value [] t v w s a b = absurd a
  one_value (k ∷ ks) t v w s a b = one_from k ks t v w s.each a b

  passes_same : {t u : Rational} (f : Affine) (v w : Extended) → t ≈ u → v ≈ᵉ w → Passes f t v → Passes f u w
  passes_same {t} {u} f v w e s p = same_transᵉ w v (value_at f u) (same_symᵉ v w s) (same_transᵉ v (value_at f t) (value_at f u) p (value_same f e))

  -- by whichever pairs the time and the value are written
  pub worth_same : {t u : Rational} (ks : List (Knot P)) (v w : Extended) → t ≈ u → v ≈ᵉ w → IsWorth shape ks t v → IsWorth shape ks u w
  worth_same [] v w e s a = absurd a
  worth_same (k ∷ ks) v w e s (inl a) = inl (record { when = same_trans (same_sym e) a.when; worth = passes_same (shape.function k.point) v w e s a.worth })
  worth_same (k ∷ []) v w e s (inr (inl a)) = absurd a
  worth_same (k ∷ n ∷ ks) v w e s (inr (inl a)) =
      inr (inl (record {
        after = lt_of_lt_of_le a.after (le_of_same e);
        before = lt_of_le_of_lt (ge_of_same e) a.before;
        worth = passes_same (shape.function k.after) v w e s a.worth;
      }))
  worth_same (k ∷ ks) v w e s (inr (inr a)) = inr (inr (worth_same ks v w e s a))

  -- the value at a knot by its place
  pub worth_at : (ks : List (Knot P)) (i : ℕ) (k : Knot P) (t : Rational) → slice_get ks i ≡ Some k → t ≈ time k
      → IsWorth shape ks t (value_at (shape.function k.point) t)
  worth_at [] i k t h e = absurd (cc)
  worth_at (l ∷ ks) zero k t h e = let s : l ≡ k = some_is h in subst (λ l. IsWorth shape (l ∷ ks) t (value_at (shape.function k.point) t)) (sym s)
      (inl (record { when = e; worth = same_reflᵉ (value_at (shape.function k.point) t) }))
  worth_at (l ∷ ks) (suc i) k t h e = inr (inr (worth_at ks i k t h e))

  in_gap : (ks : List (Knot P)) (i : ℕ) (k n : Knot P) (t : Rational) → slice_get ks i ≡ Some k → slice_get ks (suc i) ≡ Some n → time k <ʳ t → t <ʳ time n
      → IsWorth shape ks t (value_at (shape.function k.after) t)
  in_gap [] i k n t h j a b = absurd (cc)
  in_gap (l ∷ []) zero k n t h j a b = absurd (cc)
  in_gap (l ∷ m ∷ ks) zero k n t h j a b =
      let s : l ≡ k = some_is h in let r : m ≡ n = some_is j in
      subst (λ l. IsWorth shape (l ∷ m ∷ ks) t (value_at (shape.function k.after) t)) (sym s)
      (inr (inl (record { after = a; before = subst (λ m. t <ʳ time m) (sym r) b; worth = same_reflᵉ (value_at (shape.function k.after) t) })))
  in_gap (l ∷ ks) (suc i) k n t h j a b = inr (inr (in_gap ks i k n t h j a b))

  -- and in a gap by the places of its ends
  pub worth_between : (ks : List (Knot P)) (i : ℕ) (k n : Knot P) (t : Rational) → slice_get ks i ≡ Some k → slice_get ks (i + 1) ≡ Some n
      → time k <ʳ t → t <ʳ time n
      → IsWorth shape ks t (value_at (shape.function k.after) t)
  worth_between ks i k n t h j a b = in_gap ks i k n t h (subst (λ p. slice_get ks p ≡ Some n) next j) a b
    where
      next : i + 1 ≡ suc i
      next = omega arith

  -- the shapes of a knot by its place
  pub shape_at : (ks : List (Knot P)) (i : ℕ) (k : Knot P) → slice_get ks i ≡ Some k → HasShape ks k.point
  shape_at [] i k h = absurd (cc)
  shape_at (l ∷ ks) zero k h = inl (sym (ap (λ k. k.point) (some_is h)))
  shape_at (l ∷ ks) (suc i) k h = inr (inr (shape_at ks i k h))

  -- and the one after it
  pub shape_after : (ks : List (Knot P)) (i : ℕ) (k : Knot P) → slice_get ks i ≡ Some k → HasShape ks k.after
  shape_after [] i k h = absurd (cc)
  shape_after (l ∷ ks) zero k h = inr (inl (sym (ap (λ k. k.after) (some_is h))))
  shape_after (l ∷ ks) (suc i) k h = inr (inr (shape_after ks i k h))

  -- the last knot by its place
  pub stop_at : (ks : List (Knot P)) (i : ℕ) (k : Knot P) → slice_get ks i ≡ Some k → slice_get ks (i + 1) ≡ None → stop ks ≡ time k
  stop_at ks i k h j = at_end ks i k h (subst (λ p. slice_get ks p ≡ None) next j)
    where
      next : i + 1 ≡ suc i
      next = omega arith

      at_end : (ks : List (Knot P)) (i : ℕ) (k : Knot P) → slice_get ks i ≡ Some k → slice_get ks (suc i) ≡ None → stop ks ≡ time k
      at_end [] i k h j = absurd (cc)
      at_end (l ∷ []) zero k h j = ap (λ k. time k) (some_is h)
      at_end (l ∷ m ∷ ks) zero k h j = absurd (cc)
      at_end (l ∷ []) (suc i) k h j = absurd (cc)
      at_end (l ∷ m ∷ ks) (suc i) k h j = at_end (m ∷ ks) i k h j

  first_rises : (l : Knot P) (ks : List (Knot P)) (i : ℕ) (k : Knot P) → Each (IsKnot shape) (l ∷ ks) → slice_get ks i ≡ Some k → time l <ʳ time k
  first_rises l [] i k h e = absurd (cc)
  first_rises l (m ∷ ks) zero k h e = subst (λ k. time l <ʳ time k) (some_is e) h.0.rising
  first_rises l (m ∷ ks) (suc i) k h e = lt_trans h.0.rising (first_rises m ks i k h.1 e)

  -- a knot in an earlier place is not later
  pub rising_places : (ks : List (Knot P)) (i j : ℕ) (k n : Knot P) → Each (IsKnot shape) ks → slice_get ks i ≡ Some k → slice_get ks j ≡ Some n
      → i ≤ j → time k ≤ʳ time n
  rising_places [] i j k n h e f le = absurd (cc)
  rising_places (l ∷ ks) zero zero k n h e f le = let s : k ≡ n = cc in subst (λ n. time k ≤ʳ time n) s (le_refl (time k))
  rising_places (l ∷ ks) zero (suc j) k n h e f le = subst (λ k. time k ≤ʳ time n) (some_is e) (le_of_lt (first_rises l ks j n h f))
  rising_places (l ∷ ks) (suc i) zero k n h e f le = absurd (omega (arith, le))
  rising_places (l ∷ ks) (suc i) (suc j) k n h e f le = rising_places ks i j k n h.1 e f (omega (arith, le))

  -- the first knot is not later than any
  pub start_first : (ks : List (Knot P)) (i : ℕ) (k : Knot P) → Each (IsKnot shape) ks → slice_get ks i ≡ Some k → start ks ≤ʳ time k
  start_first [] i k h e = absurd (cc)
  start_first (l ∷ ks) i k h e = rising_places (l ∷ ks) 0 i l k h refl e (omega arith)

  rises_at : (ks : List (Knot P)) (i : ℕ) (k n : Knot P) → Each (IsKnot shape) ks → slice_get ks i ≡ Some k → slice_get ks (suc i) ≡ Some n → time k <ʳ time n
  rises_at [] i k n h e f = absurd (cc)
  rises_at (l ∷ ks) zero k n h e f = subst (λ k. time k <ʳ time n) (some_is e) (first_rises l ks 0 n h f)
  rises_at (l ∷ ks) (suc i) k n h e f = rises_at ks i k n h.1 e f

  -- the times rise from place to place
  pub next_rises : (ks : List (Knot P)) (i : ℕ) (k n : Knot P) → Each (IsKnot shape) ks → slice_get ks i ≡ Some k → slice_get ks (i + 1) ≡ Some n
      → time k <ʳ time n
  next_rises ks i k n h e f = rises_at ks i k n h e (subst (λ p. slice_get ks p ≡ Some n) next f)
    where
      next : i + 1 ≡ suc i
      next = omega arith
