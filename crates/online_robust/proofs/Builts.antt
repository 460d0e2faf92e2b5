-- A signal of margins that is made step by step, and tells a function.
use Rattle.std.proofs.Common.{◌≡◌, ◌⊎◌, inl, inr, ℕ, pos, neg_ℤ, ◌^◌, List, [], ◌∷◌, sym, subst, arith}
use Rattle.rational.specs.Rational.{IsWithin}
use Rattle.rational.specs.Time.{Rational, ◌≈◌, ◌≤ʳ◌, ◌<ʳ◌, whole}
use Rattle.rational.specs.Extended.{Extended, Passes, value_at}
use Rattle.rational.specs.Affine.{IsBounded}
use Rattle.rational.specs.Windows.{Function}
use Rattle.rational.proofs.Order.{ge_of_same, le_trans, lt_of_le_of_lt, same_refl, same_sym, same_trans}
use Rattle.rational.proofs.Mixed.{within_same}
use Rattle.rational.proofs.Sames.{transᵉ}
use Rattle.rational.proofs.AffineLemmas.{bounded_same, value_same}
use Rattle.rational.proofs.TimeFunctions.{IsFunction}
use Rattle.frac128.specs.Value.{value}
use Rattle.frac128.specs.declared.frac.Frac.{Frac}
use Rattle.value_laws.specs.Kinds.{margin_shape}
use Rattle.value_laws.specs.Margins.{margin_function}
use Rattle.value_laws.specs.declared.margin.Margin.{Margin}
use Rattle.pl_signal.specs.declared.knot.Knot.{Knot}
use Rattle.pl_signal.specs.declared.joining.Side.{Side}
use Rattle.pl_signal.specs.Building.{GoesOn}
use Rattle.pl_signal.specs.Joining.{IsChosen, Joins}
use Rattle.pl_signal.specs.Knots.{stop, HasShape, IsWorth}
use Rattle.pl_signal.proofs.Limits.{limited}
use Rattle.pl_signal.proofs.Telling.{TellsSoFar, told, tells_first, tells_on, tells_join}
use Rattle.online_robust.specs.Told.{IsMovedBy, IsTick}
use Rattle.online_robust.specs.ReadLines.{IsBuilt, IsStretch, IsThere}

-- a time of 32 bits lies within the limits
pub tick_within : {t : Rational} → IsTick t → IsWithin (2 ^ 34) t
tick_within {t} h = (low h.0, high h.1)
  where
    low : whole (pos 0) ≤ʳ t → whole (neg_ℤ (pos (2 ^ 34))) ≤ʳ t
    low k = omega (arith, k)

    high : t ≤ʳ whole (pos 4294967295) → t ≤ʳ whole (pos (2 ^ 34))
    high k = omega (arith, k)

-- a time between two of 32 bits is one
pub tick_between : {l t r : Rational} → IsTick l → IsTick r → l ≤ʳ t → t ≤ʳ r → IsTick t
tick_between a b h k = (le_trans a.0 h, le_trans k b.1)

module _ (F : Function) (reach : ℕ) (is : IsFunction F) where
  so_far : (from at : Rational) (ks : List (Knot Margin)) → IsBuilt F reach from at ks → TellsSoFar margin_shape F ks
  so_far from at ks b = record { signal = b.signal; worth = b.worth }

  -- the first knot
  pub built_first : (at : Frac) (point : Margin) (from : Rational) (ks : List (Knot Margin)) → IsThere F reach (value at) point → value at ≈ from
      → ks ≡ record { time = at; point = point; after = point } ∷ [] → IsBuilt F reach from (value at) ks
  built_first at point from ks there same e =
      let tells = tells_first margin_shape F ks point at is there.told e in
      subst (IsBuilt F reach from (value at)) (sym e) (record {
        signal = (subst (TellsSoFar margin_shape F) e tells).signal;
        worth = (subst (TellsSoFar margin_shape F) e tells).worth;
        begins = same;
        ends = same_refl (value at);
        bounded = bounded;
        moved = moved;
      })
    where
      only : List (Knot Margin)
      only = record { time = at; point = point; after = point } ∷ []

      bounded : (t : Rational) (v : Extended) → IsWorth margin_shape only t v → IsBounded (2 ^ 31) v
      bounded t v (inl w) = bounded_same (2 ^ 31) v (value_at (margin_function point) (value at))
          (transᵉ w.worth (value_same (margin_function point) w.when)) there.bounded
      bounded t v (inr (inl w)) = absurd w
      bounded t v (inr (inr w)) = absurd w

      moved : (p : Margin) → HasShape only p → IsMovedBy reach p
      moved p (inl f) = subst (IsMovedBy reach) (sym f) there.moved
      moved p (inr (inl f)) = subst (IsMovedBy reach) (sym f) there.moved
      moved p (inr (inr f)) = absurd f

  module _ (from at : Rational) (old new : List (Knot Margin)) (b : IsBuilt F reach from at old) where
    -- a gap more, and the point behind it
    pub built_on : (after point : Margin) (to : Frac) → GoesOn margin_shape old after to point new
        → ((t : Rational) → at <ʳ t → t <ʳ value to → IsThere F reach t after) → IsMovedBy reach after → IsThere F reach (value to) point
        → IsBuilt F reach from (value to) new
    built_on after point to on gap moves there =
        let tells =
        tells_on margin_shape F old new after point to is (so_far from at old b) on (λ t x y. (gap t (lt_of_le_of_lt begins x) y).told) there.told in
        record {
          signal = on.signal;
          worth = tells.worth;
          begins = subst (λ s. s ≈ from) (sym on.begins) b.begins;
          ends = subst (λ s. s ≈ value to) (sym on.ends) (same_refl (value to));
          bounded = λ t v w. by_part t v ((on.worth t v).0 w);
          moved = λ p h. by_shape p (on.shapes p h);
        }
      where
        begins : at ≤ʳ stop old
        begins = ge_of_same b.ends

        by_part : (t : Rational) (v : Extended) → IsWorth margin_shape old t v
            ⊎ ((stop old <ʳ t) × (t <ʳ value to) × Passes (margin_function after) t v) ⊎ ((t ≈ value to) × Passes (margin_function point) t v)
            → IsBounded (2 ^ 31) v
        by_part t v (inl w) = b.bounded t v w
        by_part t v (inr (inl w)) = bounded_same (2 ^ 31) v (value_at (margin_function after) t) w.2 (gap t (lt_of_le_of_lt begins w.0) w.1).bounded
        by_part t v (inr (inr w)) = bounded_same (2 ^ 31) v (value_at (margin_function point) (value to))
            (transᵉ w.1 (value_same (margin_function point) w.0)) there.bounded

        by_shape : (p : Margin) → HasShape old p ⊎ (p ≡ after) ⊎ (p ≡ point) → IsMovedBy reach p
        by_shape p (inl h) = b.moved p h
        by_shape p (inr (inl e)) = subst (IsMovedBy reach) (sym e) moves
        by_shape p (inr (inr e)) = subst (IsMovedBy reach) (sym e) there.moved

    -- a gap more on which one of two margins is chosen
    pub built_join : (side : Side) (p q point : Margin) (to : Frac) → Joins margin_shape side old p q to point new
        → ((t : Rational) (v : Extended) → at <ʳ t → t <ʳ value to → IsChosen side (value_at (margin_function p) t) (value_at (margin_function q) t) v
        → F t v × IsBounded (2 ^ 31) v) → IsMovedBy reach p → IsMovedBy reach q → IsThere F reach (value to) point → IsBuilt F reach from (value to) new
    built_join side p q point to joins gap p_moves q_moves there =
        let tells = tells_join margin_shape F side point to is (so_far from at old b) joins
        (λ t v x y c. (gap t v (lt_of_le_of_lt begins x) y c).0) there.told in
        record {
          signal = joins.signal;
          worth = tells.worth;
          begins = subst (λ s. s ≈ from) (sym joins.begins) b.begins;
          ends = subst (λ s. s ≈ value to) (sym joins.ends) (same_refl (value to));
          bounded = λ t v w. by_part t v ((joins.worth t v).0 w);
          moved = λ r h. by_shape r (joins.shapes r h);
        }
      where
        begins : at ≤ʳ stop old
        begins = ge_of_same b.ends

        by_part : (t : Rational) (v : Extended) → IsWorth margin_shape old t v
            ⊎ ((stop old <ʳ t) × (t <ʳ value to) × IsChosen side (value_at (margin_function p) t) (value_at (margin_function q) t) v)
            ⊎ ((t ≈ value to) × Passes (margin_function point) t v) → IsBounded (2 ^ 31) v
        by_part t v (inl w) = b.bounded t v w
        by_part t v (inr (inl w)) = (gap t v (lt_of_le_of_lt begins w.0) w.1 w.2).1
        by_part t v (inr (inr w)) = bounded_same (2 ^ 31) v (value_at (margin_function point) (value to))
            (transᵉ w.1 (value_same (margin_function point) w.0)) there.bounded

        by_shape : (r : Margin) → HasShape old r ⊎ (r ≡ p) ⊎ (r ≡ q) ⊎ (r ≡ point) → IsMovedBy reach r
        by_shape r (inl h) = b.moved r h
        by_shape r (inr (inl e)) = subst (IsMovedBy reach) (sym e) p_moves
        by_shape r (inr (inr (inl e))) = subst (IsMovedBy reach) (sym e) q_moves
        by_shape r (inr (inr (inr e))) = subst (IsMovedBy reach) (sym e) there.moved

  -- a signal that was made up to the end tells the function on the stretch
  pub built_done : (from at to : Rational) (ks : List (Knot Margin)) → IsBuilt F reach from at ks → at ≈ to → IsTick from → IsTick to
      → IsStretch F reach from to ks
  built_done from at to ks b same first last = record {
    tells = told margin_shape F from to ks is (so_far from at ks b) b.begins (same_trans b.ends same);
    limited = limited margin_shape ks b.signal b.bounded (within_same (2 ^ 34) (same_sym b.begins) (tick_within first))
        (within_same (2 ^ 34) (same_sym (same_trans b.ends same)) (tick_within last));
    moved = b.moved;
  }
