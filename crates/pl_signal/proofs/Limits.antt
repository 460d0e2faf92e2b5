-- One-sided limits of a signal, its parts and breakpoints, and when it is limited.
use Rattle.std.proofs.Common.{◌≡◌, ℕ, zero, suc, ◌+◌, pos, neg_ℤ, ◌^◌, ◌⊎◌, inl, inr, List, [], ◌∷◌, Some, None, refl, sym, arith, subst}
use Rattle.std.specs.Prelude.{Option, slice_get}
use Rattle.rational.specs.Rational.{IsWithin}
use Rattle.rational.specs.Time.{Rational, Within, ◌≤ʳ◌, ◌<ʳ◌, ◌≈◌, whole}
use Rattle.rational.specs.Extended.{Extended, Affine, value_at, ◌≈ᵉ◌}
use Rattle.rational.specs.Affine.{AreSame, IsBounded}
use Rattle.rational.specs.InPlay.{IsLineOn, IsLeftLimit, IsRightLimit, IsPart, IsBreakpoint}
use Rattle.rational.proofs.Order.{le_refl, le_of_lt, le_trans, same_refl}
use Rattle.rational.proofs.AffineLemmas.{same_reflᵉ, same_symᵉ, same_transᵉ, value_same, bounded_same}
use Rattle.rational.proofs.LimitLemmas.{HasOneValue, line_on_part, lines_same, earlier_end, later_end}
use Rattle.rational.proofs.Bounds.{HasBounded, bounded_start, bounded_stop, bounded_between}
use Rattle.value_laws.specs.Members.{ShapeOf}
use Rattle.pl_signal.specs.declared.knot.Knot.{Knot}
use Rattle.pl_signal.specs.Knots.{time, start, stop, Each, IsKnot, IsSignal, IsWorth, CanBeLeftOut}
use Rattle.pl_signal.specs.Limits.{IsLimitedKnot, IsLimited}
use Rattle.pl_signal.proofs.Values.{some_is, to_stop, stop_at, every_time, worth_within, worth_at, worth_between, one_value, next_rises}

module _ {P : Type 0} (shape : ShapeOf P) where
  -- on the gap after a knot, and at its ends, the limits are the values of the shape there
  pub gap_line : (ks : List (Knot P)) (i : ℕ) (k n : Knot P) → slice_get ks i ≡ Some k → slice_get ks (i + 1) ≡ Some n
      → IsLineOn (IsWorth shape ks) (time k) (time n) (shape.function k.after)
  gap_line ks i k n h j = λ t a b.
      (value_at (shape.function k.after) t, worth_between shape ks i k n t h j a b, same_reflᵉ (value_at (shape.function k.after) t))

  -- from a knot on, before the next, the limit from the right is the value of the shape
  pub right_limit_in : (ks : List (Knot P)) (i : ℕ) (k n : Knot P) (t : Rational) → slice_get ks i ≡ Some k → slice_get ks (i + 1) ≡ Some n
      → time k ≤ʳ t → t <ʳ time n
      → IsRightLimit (IsWorth shape ks) t (value_at (shape.function k.after) t)
  right_limit_in ks i k n t h j a b =
      record {
        b = time n;
        below = b;
        line = shape.function k.after;
        on = line_on_part (IsWorth shape ks) (shape.function k.after) a (le_refl (time n)) (gap_line ks i k n h j);
        value = same_reflᵉ (value_at (shape.function k.after) t);
      }

  -- after a knot, up to the next, so from the left
  pub left_limit_in : (ks : List (Knot P)) (i : ℕ) (k n : Knot P) (t : Rational) → slice_get ks i ≡ Some k → slice_get ks (i + 1) ≡ Some n
      → time k <ʳ t → t ≤ʳ time n
      → IsLeftLimit (IsWorth shape ks) t (value_at (shape.function k.after) t)
  left_limit_in ks i k n t h j a b =
      record {
        a = time k;
        above = a;
        line = shape.function k.after;
        on = line_on_part (IsWorth shape ks) (shape.function k.after) (le_refl (time k)) b (gap_line ks i k n h j);
        value = same_reflᵉ (value_at (shape.function k.after) t);
      }

  -- the values of a limited signal are bounded
  pub worth_bounded : (ks : List (Knot P)) → IsLimited shape ks → HasBounded (2 ^ 31) (IsWorth shape ks)
  worth_bounded [] h t v w = absurd w
  worth_bounded (k ∷ ks) h t v (inl w) =
      bounded_same (2 ^ 31) v (value_at (shape.function k.point) (time k))
      (same_transᵉ v (value_at (shape.function k.point) t) (value_at (shape.function k.point) (time k)) w.worth
      (value_same (shape.function k.point) w.when)) h.0.point
  worth_bounded (k ∷ []) h t v (inr (inl w)) = absurd w
  worth_bounded (k ∷ n ∷ ks) h t v (inr (inl w)) =
      bounded_same (2 ^ 31) v (value_at (shape.function k.after) t) w.worth
      (bounded_between (2 ^ 31) (shape.function k.after) (time k) t (time n) w.after w.before h.0.limits.0 h.0.limits.1)
  worth_bounded (k ∷ ks) h t v (inr (inr w)) = worth_bounded ks h.1 t v w

  limited_from : (k : Knot P) (ks : List (Knot P)) → Each (IsKnot shape) (k ∷ ks) → HasBounded (2 ^ 31) (IsWorth shape (k ∷ ks))
      → whole (neg_ℤ (pos (2 ^ 34))) ≤ʳ time k → stop (k ∷ ks) ≤ʳ whole (pos (2 ^ 34))
      → Each (IsLimitedKnot shape) (k ∷ ks)
  limited_from k [] h w low high = (
    record {
      when = (low, high);
      point = w (time k) (value_at (shape.function k.point) (time k))
          (inl (record { when = same_refl (time k); worth = same_reflᵉ (value_at (shape.function k.point) (time k)) }));
      limits = tt;
    },
    tt,
  )
  limited_from k (n ∷ ks) h w low high =
      let on : (t : Rational) → time k <ʳ t → t <ʳ time n → IsBounded (2 ^ 31) (value_at (shape.function k.after) t) =
      λ t a b. w t (value_at (shape.function k.after) t)
      (inr (inl (record { after = a; before = b; worth = same_reflᵉ (value_at (shape.function k.after) t) }))) in (
        record {
          when = (low, le_trans (to_stop shape k (n ∷ ks) h) high);
          point = w (time k) (value_at (shape.function k.point) (time k))
              (inl (record { when = same_refl (time k); worth = same_reflᵉ (value_at (shape.function k.point) (time k)) }));
          limits = (
            bounded_start (2 ^ 31) (shape.function k.after) (time k) (time n) h.0.rising on,
            bounded_stop (2 ^ 31) (shape.function k.after)
                (time k) (time n) h.0.rising on,
          );
        },
        limited_from n ks h.1 (λ t v x. w t v (inr (inr x))) (le_trans low (le_of_lt h.0.rising)) high,
      )

  -- a signal with bounded values, between times within 2^34, is limited
  pub limited : (ks : List (Knot P)) → IsSignal shape ks → HasBounded (2 ^ 31) (IsWorth shape ks) → IsWithin (2 ^ 34) (start ks)
      → IsWithin (2 ^ 34) (stop ks) → IsLimited shape ks
  limited [] s w a b = tt
  limited (k ∷ ks) s w a b = limited_from k ks s.each w a.0 b.1

  -- the times of a limited signal are within 2^34
  pub limited_start : (ks : List (Knot P)) → IsSignal shape ks → IsLimited shape ks → IsWithin (2 ^ 34) (start ks)
  limited_start [] s h = let some = s.some in absurd (omega arith)
  limited_start (k ∷ ks) s h = h.0.when

  -- and so does the last
  pub limited_last : (k : Knot P) (ks : List (Knot P)) → IsLimited shape (k ∷ ks) → IsWithin (2 ^ 34) (stop (k ∷ ks))
  limited_last k [] h = h.0.when
  limited_last k (n ∷ ks) h = limited_last n ks h.1

  -- so for the end of a signal
  pub limited_stop : (ks : List (Knot P)) → IsSignal shape ks → IsLimited shape ks → IsWithin (2 ^ 34) (stop ks)
  limited_stop [] s h = let some = s.some in absurd (omega arith)
  limited_stop (k ∷ ks) s h = limited_last k ks h

  -- a signal has one value at each time
  pub signal_one : (ks : List (Knot P)) → IsSignal shape ks → HasOneValue (IsWorth shape ks)
  signal_one ks s = λ t v w a b. one_value shape ks t v w s a b

  -- on the gap after a knot the shape there is the part about each time
  pub part_in : (ks : List (Knot P)) (i : ℕ) (k n : Knot P) (t : Rational) → slice_get ks i ≡ Some k → slice_get ks (i + 1) ≡ Some n → time k <ʳ t
      → t <ʳ time n → IsPart (IsWorth shape ks) t (shape.function k.after)
  part_in ks i k n t h j a b = record { a = time k; b = time n; above = a; below = b; on = gap_line ks i k n h j }

  -- there is one part about a time
  pub part_one : (ks : List (Knot P)) (t : Rational) (f g : Affine) → IsSignal shape ks → IsPart (IsWorth shape ks) t f
      → IsPart (IsWorth shape ks) t g → AreSame f g
  part_one ks t f g s p q =
      let c = later_end p.above q.above in
      let F = IsWorth shape ks in
      lines_same F f g (signal_one ks s) c.1 (line_on_part F f c.2 (le_of_lt p.below) p.on) (line_on_part F g c.3 (le_of_lt q.below) q.on)

  -- no inner knot can be left out
  pub needed_at : (ks : List (Knot P)) (i : ℕ) (b k n : Knot P) → Each (IsKnot shape) ks → slice_get ks i ≡ Some b → slice_get ks (suc i) ≡ Some k
      → slice_get ks (suc (suc i)) ≡ Some n → ¬ CanBeLeftOut shape b k
  needed_at [] i b k n h e f g = absurd (cc)
  needed_at (l ∷ []) zero b k n h e f g = absurd (cc)
  needed_at (l ∷ m ∷ []) zero b k n h e f g = absurd (cc)
  needed_at (l ∷ m ∷ o ∷ ks) zero b k n h e f g =
      subst (λ l. ¬ CanBeLeftOut shape l k) (some_is e) (subst (λ m. ¬ CanBeLeftOut shape l m) (some_is f) h.0.needed)
  needed_at (l ∷ ks) (suc i) b k n h e f g = needed_at ks i b k n h.1 e f g

  -- about a knot between two others there is no part
  no_part : (ks : List (Knot P)) (i : ℕ) (b k n : Knot P) → IsSignal shape ks → slice_get ks i ≡ Some b → slice_get ks (suc i) ≡ Some k
      → slice_get ks (suc (suc i)) ≡ Some n → (line : Affine) → ¬ IsPart (IsWorth shape ks) (time k) line
  no_part ks i b k n s e f g line p =
      needed_at ks i b k n s.each e f g
      (record {
        here = here;
        on = λ t. same_transᵉ (value_at (shape.function b.after) t) (value_at line t) (value_at (shape.function k.after) t)
            (before t) (after t);
      })
    where
      next : i + 1 ≡ suc i
      next = omega arith

      after_next : i + 1 + 1 ≡ suc (suc i)
      after_next = omega arith

      at_k : slice_get ks (i + 1) ≡ Some k
      at_k = subst (λ p. slice_get ks p ≡ Some k) (sym next) f

      at_n : slice_get ks (i + 1 + 1) ≡ Some n
      at_n = subst (λ p. slice_get ks p ≡ Some n) (sym after_next) g

      before : AreSame (shape.function b.after) line
      before =
          let c = later_end p.above (next_rises shape ks i b k s.each e at_k) in
          lines_same (IsWorth shape ks) (shape.function b.after) line (signal_one ks s) c.1
          (line_on_part (IsWorth shape ks) (shape.function b.after) c.3 (le_refl (time k)) (gap_line ks i b k e at_k))
          (line_on_part (IsWorth shape ks) line c.2 (le_of_lt p.below) p.on)

      after : AreSame line (shape.function k.after)
      after =
          let d = earlier_end p.below (next_rises shape ks (i + 1) k n s.each at_k at_n) in
          lines_same (IsWorth shape ks) line (shape.function k.after) (signal_one ks s) d.1
          (line_on_part (IsWorth shape ks) line (le_of_lt p.above) d.2 p.on)
          (line_on_part (IsWorth shape ks) (shape.function k.after) (le_refl (time k)) d.3 (gap_line ks (i + 1) k n at_k at_n))

      here : value_at (shape.function b.after) (time k) ≈ᵉ value_at (shape.function k.point) (time k)
      here =
          let w = p.on (time k) p.above p.below in
          same_transᵉ (value_at (shape.function b.after) (time k)) (value_at line (time k)) (value_at (shape.function k.point) (time k)) (before (time k))
          (same_transᵉ (value_at line (time k)) w.0 (value_at (shape.function k.point) (time k)) (same_symᵉ w.0 (value_at line (time k)) w.2)
          (one_value shape ks (time k) w.0 (value_at (shape.function k.point) (time k)) s w.1 (worth_at shape ks (i + 1) k (time k) at_k (same_refl (time k)))))

  prior : (ks : List (Knot P)) (i : ℕ) (k : Knot P) → slice_get ks (suc i) ≡ Some k → (b : Knot P) × (slice_get ks i ≡ Some b)
  prior [] i k h = absurd (cc)
  prior (l ∷ ks) zero k h = (l, refl)
  prior (l ∷ ks) (suc i) k h = prior ks i k h

  first_time : (ks : List (Knot P)) (k : Knot P) → slice_get ks zero ≡ Some k → time k ≈ start ks
  first_time [] k h = absurd (cc)
  first_time (l ∷ ks) k h = subst (λ k. time k ≈ time l) (some_is h) (same_refl (time l))

  -- each knot is a breakpoint
  pub breakpoint_at : (ks : List (Knot P)) (i : ℕ) (k : Knot P) → IsSignal shape ks → slice_get ks i ≡ Some k
      → IsBreakpoint (IsWorth shape ks) (start ks) (stop ks) (time k)
  breakpoint_at ks zero k s h = IsBreakpoint.start (first_time ks k h)
  breakpoint_at ks (suc i) k s h = by_next (slice_get ks (suc (suc i))) refl
    where
      next : suc i + 1 ≡ suc (suc i)
      next = omega arith

      by_next : (o : Option (Knot P)) → slice_get ks (suc (suc i)) ≡ o → IsBreakpoint (IsWorth shape ks) (start ks) (stop ks) (time k)
      by_next None e = IsBreakpoint.stop
          (subst (λ t. time k ≈ t) (sym (stop_at shape ks (suc i) k h (subst (λ p. slice_get ks p ≡ None) (sym next) e))) (same_refl (time k)))
      by_next (Some n) e =
          let b = prior ks i k h in
          IsBreakpoint.inner (worth_within shape ks (time k) (value_at (shape.function k.point) (time k)) s
          (worth_at shape ks (suc i) k (time k) h (same_refl (time k)))) (no_part ks i b.0 k n s b.1 h e)

  -- t is the time of a knot, or lies on the gap after one
  abbrev pub IsFound : List (Knot P) → Rational → Type 0
  IsFound ks t = ((i : ℕ) × (k : Knot P) × (slice_get ks i ≡ Some k) × (t ≈ time k))
      ⊎ ((i : ℕ) × (k n : Knot P) × (slice_get ks i ≡ Some k) × (slice_get ks (i + 1) ≡ Some n) × (time k <ʳ t) × (t <ʳ time n))

  found_by : (ks : List (Knot P)) (t : Rational) (v : Extended) → IsWorth shape ks t v → IsFound ks t
  found_by [] t v w = absurd w
  found_by (k ∷ ks) t v (inl w) = inl (0, k, refl, w.when)
  found_by (k ∷ []) t v (inr (inl w)) = absurd w
  found_by (k ∷ n ∷ ks) t v (inr (inl w)) = inr (0, k, n, refl, refl, w.after, w.before)
  found_by (k ∷ ks) t v (inr (inr w)) = later (found_by ks t v w)
    where
      later : IsFound ks t → IsFound (k ∷ ks) t
      later (inl (i, l, h, e)) = inl (suc i, l, h, e)
      later (inr (i, l, n, h, j, a, b)) =
          let up : suc i + 1 ≡ suc (i + 1) = omega arith in
          inr (suc i, l, n, h, subst (λ p. slice_get (k ∷ ks) p ≡ Some n) (sym up) j, a, b)

  -- each time of the domain is found, at a knot or on a gap
  pub found : (ks : List (Knot P)) (t : Rational) → IsSignal shape ks → Within (start ks) (stop ks) t → IsFound ks t
  found ks t s h = let w = every_time shape ks t s h in found_by ks t w.0 w.1
