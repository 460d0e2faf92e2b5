-- What `Builder::step` makes of the last knots.
use Rattle.std.proofs.Common.{◌≡◌, ℕ, ◌+◌, ◌⊎◌, inl, inr, List, [], ◌∷◌, ◌++◌, length, get_or, set}
use Rattle.std.proofs.Common.{take, refl, sym, ◌∙◌, ap, subst, arith, length-append, length-take}
use Rattle.std.proofs.lemmas.List.{append_assoc, set_at}
use Rattle.rational.specs.Time.{Rational, ◌<ʳ◌, ◌≈◌}
use Rattle.rational.specs.Extended.{Extended, Passes, value_at}
use Rattle.rational.proofs.Order.{lt_or_same_or_gt, lt_trans, lt_of_lt_of_le, lt_of_le_of_lt, le_of_same, ge_of_same, same_sym}
use Rattle.rational.proofs.AffineLemmas.{same_transᵉ, same_symᵉ, value_same}
use Rattle.frac128.specs.Value.{value}
use Rattle.frac128.specs.declared.frac.Frac.{Frac}
use Rattle.value_laws.specs.Members.{ShapeOf}
use Rattle.pl_signal.specs.declared.knot.Knot.{Knot}
use Rattle.pl_signal.specs.Knots.{time, stop, HasShape, Each, IsBetween, IsWorth, CanBeLeftOut, IsKnot}
use Rattle.pl_signal.specs.Building.{GoesOn}
use Rattle.pl_signal.proofs.KnotLemmas.{split_two, read_at, some_in_end, start_kept, stop_end, shape_in}
use Rattle.pl_signal.proofs.KnotLemmas.{shape_front, shape_end, each_end, replaced_end, worth_in, worth_end}

-- the knot with which a signal ends
abbrev pub ends_at : {P : Type 0} → Frac → P → Knot P
ends_at at point = record { time = at; point = point; after = point }

module _ {P : Type 0} (shape : ShapeOf P) where
  abbrev pub goes_on : Knot P → P → Knot P
  goes_on l after = record { time = l.time; point = l.point; after = after }

  -- the values where the last knot stays
  kept_worth : (xs : List (Knot P)) (l : Knot P) (after : P) (at : Frac) (point : P) (t : Rational) (v : Extended)
      → IsWorth shape (xs ++ goes_on l after ∷ ends_at at point ∷ []) t v
      → IsWorth shape (xs ++ l ∷ []) t v ⊎ ((stop (xs ++ l ∷ []) <ʳ t) × (t <ʳ value at) × Passes (shape.function after) t v)
      ⊎ ((t ≈ value at) × Passes (shape.function point) t v)
  kept_worth xs l after at point t v h = elim (worth_in shape xs (goes_on l after) l (ends_at at point ∷ []) [] t v refl h) [ inl k ↦ inl k | inr k ↦ by_end k ]
    where
      by_end : IsWorth shape (goes_on l after ∷ ends_at at point ∷ []) t v
          → IsWorth shape (xs ++ l ∷ []) t v ⊎ ((stop (xs ++ l ∷ []) <ʳ t) × (t <ʳ value at) × Passes (shape.function after) t v)
          ⊎ ((t ≈ value at) × Passes (shape.function point) t v)
      by_end (inl h) = inl (worth_end shape xs (l ∷ []) t v (inl (record { when = h.when; worth = h.worth })))
      by_end (inr (inl h)) = inr (inl (subst (λ s. s <ʳ t) (sym (stop_end xs l [])) h.after, h.before, h.worth))
      by_end (inr (inr (inl h))) = inr (inr (h.when, h.worth))
      by_end (inr (inr (inr (inl h)))) = absurd h
      by_end (inr (inr (inr (inr h)))) = absurd h

  worth_kept : (xs : List (Knot P)) (l : Knot P) (after : P) (at : Frac) (point : P) (t : Rational) (v : Extended)
      → IsWorth shape (xs ++ l ∷ []) t v ⊎ ((stop (xs ++ l ∷ []) <ʳ t) × (t <ʳ value at) × Passes (shape.function after) t v)
      ⊎ ((t ≈ value at) × Passes (shape.function point) t v)
      → IsWorth shape (xs ++ goes_on l after ∷ ends_at at point ∷ []) t v
  worth_kept xs l after at point t v (inl h) =
      elim (worth_in shape xs l (goes_on l after) [] (ends_at at point ∷ []) t v refl h) [ inl k ↦ k | inr k ↦ by_end k ]
    where
      by_end : IsWorth shape (l ∷ []) t v → IsWorth shape (xs ++ goes_on l after ∷ ends_at at point ∷ []) t v
      by_end (inl h) = worth_end shape xs (goes_on l after ∷ ends_at at point ∷ []) t v (inl (record { when = h.when; worth = h.worth }))
      by_end (inr (inl h)) = absurd h
      by_end (inr (inr h)) = absurd h
  worth_kept xs l after at point t v (inr (inl h)) =
      worth_end shape xs (goes_on l after ∷ ends_at at point ∷ []) t v
      (inr (inl (record { after = subst (λ s. s <ʳ t) (stop_end xs l []) h.0; before = h.1; worth = h.2 })))
  worth_kept xs l after at point t v (inr (inr h)) =
      worth_end shape xs (goes_on l after ∷ ends_at at point ∷ []) t v (inr (inr (inl (record { when = h.0; worth = h.1 }))))

  kept_shapes : (xs : List (Knot P)) (l : Knot P) (after : P) (at : Frac) (point p : P) → HasShape (xs ++ goes_on l after ∷ ends_at at point ∷ []) p
      → HasShape (xs ++ l ∷ []) p ⊎ (p ≡ after) ⊎ (p ≡ point)
  kept_shapes xs l after at point p h =
      elim (shape_in xs (goes_on l after ∷ ends_at at point ∷ []) p h) [ inl k ↦ inl (shape_front xs (l ∷ []) p k) | inr k ↦ by_end k ]
    where
      by_end : HasShape (goes_on l after ∷ ends_at at point ∷ []) p → HasShape (xs ++ l ∷ []) p ⊎ (p ≡ after) ⊎ (p ≡ point)
      by_end (inl h) = inl (shape_end xs (l ∷ []) p (inl h))
      by_end (inr (inl h)) = inr (inl h)
      by_end (inr (inr (inl h))) = inr (inr h)
      by_end (inr (inr (inr (inl h)))) = inr (inr h)
      by_end (inr (inr (inr (inr h)))) = absurd h

  last_knots : (l : Knot P) (after : P) (at : Frac) (point : P) → time l <ʳ value at → Each (IsKnot shape) (goes_on l after ∷ ends_at at point ∷ [])
  last_knots l after at point h = (record { rising = h; needed = tt; ends = tt }, (record { rising = tt; needed = tt; ends = refl }, tt))

  kept_with : (xs : List (Knot P)) (l : Knot P) (after : P) (at : Frac) (point : P) → Each (IsKnot shape) (xs ++ goes_on l after ∷ ends_at at point ∷ [])
      → GoesOn shape (xs ++ l ∷ []) after at point (xs ++ goes_on l after ∷ ends_at at point ∷ [])
  kept_with xs l after at point each = record {
    signal = record { some = some_in_end xs (goes_on l after) (ends_at at point ∷ []); each = each };
    begins = start_kept xs (goes_on l after) l (ends_at at point ∷ []) [] refl;
    ends = stop_end xs (goes_on l after) (ends_at at point ∷ []);
    worth = λ t v. (kept_worth xs l after at point t v, worth_kept xs l after at point t v);
    shapes = kept_shapes xs l after at point;
  }

  -- the first knot stays
  pub first_kept : (l : Knot P) (after : P) (at : Frac) (point : P) → time l <ʳ value at
      → GoesOn shape (l ∷ []) after at point (goes_on l after ∷ ends_at at point ∷ [])
  first_kept l after at point h = kept_with [] l after at point (last_knots l after at point h)

  -- a later knot that is needed stays
  pub last_kept : (xs : List (Knot P)) (p l : Knot P) (after : P) (at : Frac) (point : P) → Each (IsKnot shape) (xs ++ p ∷ l ∷ []) → time l <ʳ value at
      → ¬ CanBeLeftOut shape p (goes_on l after)
      → GoesOn shape (xs ++ p ∷ l ∷ []) after at point (xs ++ p ∷ goes_on l after ∷ ends_at at point ∷ [])
  last_kept xs p l after at point each h n =
      subst (λ old. GoesOn shape old after at point (xs ++ p ∷ goes_on l after ∷ ends_at at point ∷ [])) (append_assoc xs (p ∷ []) (l ∷ []))
      (subst (λ new. GoesOn shape ((xs ++ p ∷ []) ++ l ∷ []) after at point new) (append_assoc xs (p ∷ []) (goes_on l after ∷ ends_at at point ∷ []))
      (kept_with (xs ++ p ∷ []) l after at point
      (subst (Each (IsKnot shape)) (sym (append_assoc xs (p ∷ []) (goes_on l after ∷ ends_at at point ∷ [])))
      (replaced_end shape xs p l (goes_on l after) [] (ends_at at point ∷ []) each
      (record { rising = (each_end (IsKnot shape) xs (p ∷ l ∷ []) each).0.rising; needed = n; ends = tt }, last_knots l after at point h)))))

  -- the values where the last knot leaves
  left_worth : (xs : List (Knot P)) (p l : Knot P) (after : P) (at : Frac) (point : P) (t : Rational) (v : Extended) → time p <ʳ time l
      → CanBeLeftOut shape p (goes_on l after)
      → IsWorth shape (xs ++ p ∷ ends_at at point ∷ []) t v
      → IsWorth shape (xs ++ p ∷ l ∷ []) t v ⊎ ((stop (xs ++ p ∷ l ∷ []) <ʳ t) × (t <ʳ value at) × Passes (shape.function after) t v)
      ⊎ ((t ≈ value at) × Passes (shape.function point) t v)
  left_worth xs p l after at point t v order spare h =
      elim (worth_in shape xs p p (ends_at at point ∷ []) (l ∷ []) t v refl h) [ inl k ↦ inl k | inr k ↦ by_end k ]
    where
      old : IsWorth shape (p ∷ l ∷ []) t v → IsWorth shape (xs ++ p ∷ l ∷ []) t v
          ⊎ ((stop (xs ++ p ∷ l ∷ []) <ʳ t) × (t <ʳ value at) × Passes (shape.function after) t v) ⊎ ((t ≈ value at) × Passes (shape.function point) t v)
      old k = inl (worth_end shape xs (p ∷ l ∷ []) t v k)

      by_order : IsBetween shape p (ends_at at point) t v → (t <ʳ time l) ⊎ (t ≈ time l) ⊎ (time l <ʳ t)
          → IsWorth shape (xs ++ p ∷ l ∷ []) t v ⊎ ((stop (xs ++ p ∷ l ∷ []) <ʳ t) × (t <ʳ value at) × Passes (shape.function after) t v)
          ⊎ ((t ≈ value at) × Passes (shape.function point) t v)
      by_order h (inl b) = old (inr (inl (record { after = h.after; before = b; worth = h.worth })))
      by_order h (inr (inl e)) =
          old (inr (inr (inl (record {
            when = e;
            worth = same_transᵉ v (value_at (shape.function p.after) t) (value_at (shape.function l.point) t) h.worth
                (same_transᵉ (value_at (shape.function p.after) t) (value_at (shape.function p.after) (time l)) (value_at (shape.function l.point) t)
                (value_same (shape.function p.after) e)
                (same_transᵉ (value_at (shape.function p.after) (time l)) (value_at (shape.function l.point) (time l))
                (value_at (shape.function l.point) t) spare.here (value_same (shape.function l.point) (same_sym e))));
          }))))
      by_order h (inr (inr b)) =
          inr (inl (
            subst (λ s. s <ʳ t) (sym (stop_end xs p (l ∷ []))) b,
            h.before,
            same_transᵉ v (value_at (shape.function p.after) t)
                (value_at (shape.function after) t) h.worth (spare.on t),
          ))

      by_end : IsWorth shape (p ∷ ends_at at point ∷ []) t v
          → IsWorth shape (xs ++ p ∷ l ∷ []) t v ⊎ ((stop (xs ++ p ∷ l ∷ []) <ʳ t) × (t <ʳ value at) × Passes (shape.function after) t v)
          ⊎ ((t ≈ value at) × Passes (shape.function point) t v)
      by_end (inl h) = old (inl h)
      by_end (inr (inl h)) = by_order h (lt_or_same_or_gt t (time l))
      by_end (inr (inr (inl h))) = inr (inr (h.when, h.worth))
      by_end (inr (inr (inr (inl h)))) = absurd h
      by_end (inr (inr (inr (inr h)))) = absurd h

  -- and back
  worth_left : (xs : List (Knot P)) (p l : Knot P) (after : P) (at : Frac) (point : P) (t : Rational) (v : Extended) → time p <ʳ time l → time l <ʳ value at
      → CanBeLeftOut shape p (goes_on l after)
      → IsWorth shape (xs ++ p ∷ l ∷ []) t v ⊎ ((stop (xs ++ p ∷ l ∷ []) <ʳ t) × (t <ʳ value at) × Passes (shape.function after) t v)
      ⊎ ((t ≈ value at) × Passes (shape.function point) t v)
      → IsWorth shape (xs ++ p ∷ ends_at at point ∷ []) t v
  worth_left xs p l after at point t v order later spare (inl h) =
      elim (worth_in shape xs p p (l ∷ []) (ends_at at point ∷ []) t v refl h) [ inl k ↦ k | inr k ↦ by_end k ]
    where
      between : (t <ʳ value at) → (time p <ʳ t) → Passes (shape.function p.after) t v → IsWorth shape (xs ++ p ∷ ends_at at point ∷ []) t v
      between b a w = worth_end shape xs (p ∷ ends_at at point ∷ []) t v (inr (inl (record { after = a; before = b; worth = w })))

      by_end : IsWorth shape (p ∷ l ∷ []) t v → IsWorth shape (xs ++ p ∷ ends_at at point ∷ []) t v
      by_end (inl h) = worth_end shape xs (p ∷ ends_at at point ∷ []) t v (inl h)
      by_end (inr (inl h)) = between (lt_trans h.before later) h.after h.worth
      by_end (inr (inr (inl h))) =
          between (lt_of_le_of_lt (le_of_same h.when) later) (lt_of_lt_of_le order (ge_of_same h.when))
          (same_transᵉ v (value_at (shape.function l.point) t) (value_at (shape.function p.after) t) h.worth
          (same_transᵉ (value_at (shape.function l.point) t) (value_at (shape.function l.point) (time l)) (value_at (shape.function p.after) t)
          (value_same (shape.function l.point) h.when)
          (same_transᵉ (value_at (shape.function l.point) (time l)) (value_at (shape.function p.after) (time l)) (value_at (shape.function p.after) t)
          (same_symᵉ (value_at (shape.function p.after) (time l)) (value_at (shape.function l.point) (time l)) spare.here)
          (value_same (shape.function p.after) (same_sym h.when)))))
      by_end (inr (inr (inr (inl h)))) = absurd h
      by_end (inr (inr (inr (inr h)))) = absurd h
  worth_left xs p l after at point t v order later spare (inr (inl h)) =
      worth_end shape xs (p ∷ ends_at at point ∷ []) t v
      (inr (inl (record {
        after = lt_trans order (subst (λ s. s <ʳ t) (stop_end xs p (l ∷ [])) h.0);
        before = h.1;
        worth = same_transᵉ v (value_at (shape.function after) t) (value_at (shape.function p.after) t) h.2
            (same_symᵉ (value_at (shape.function p.after) t) (value_at (shape.function after) t) (spare.on t));
      })))
  worth_left xs p l after at point t v order later spare (inr (inr h)) =
      worth_end shape xs (p ∷ ends_at at point ∷ []) t v (inr (inr (inl (record { when = h.0; worth = h.1 }))))

  left_shapes : (xs : List (Knot P)) (p l : Knot P) (after : P) (at : Frac) (point q : P) → HasShape (xs ++ p ∷ ends_at at point ∷ []) q
      → HasShape (xs ++ p ∷ l ∷ []) q ⊎ (q ≡ after) ⊎ (q ≡ point)
  left_shapes xs p l after at point q h =
      elim (shape_in xs (p ∷ ends_at at point ∷ []) q h) [ inl k ↦ inl (shape_front xs (p ∷ l ∷ []) q k) | inr k ↦ by_end k ]
    where
      by_end : HasShape (p ∷ ends_at at point ∷ []) q → HasShape (xs ++ p ∷ l ∷ []) q ⊎ (q ≡ after) ⊎ (q ≡ point)
      by_end (inl h) = inl (shape_end xs (p ∷ l ∷ []) q (inl h))
      by_end (inr (inl h)) = inl (shape_end xs (p ∷ l ∷ []) q (inr (inl h)))
      by_end (inr (inr (inl h))) = inr (inr h)
      by_end (inr (inr (inr (inl h)))) = inr (inr h)
      by_end (inr (inr (inr (inr h)))) = absurd h

  -- a knot that is not needed leaves
  pub last_left_out : (xs : List (Knot P)) (p l : Knot P) (after : P) (at : Frac) (point : P) → Each (IsKnot shape) (xs ++ p ∷ l ∷ []) → time l <ʳ value at
      → CanBeLeftOut shape p (goes_on l after)
      → GoesOn shape (xs ++ p ∷ l ∷ []) after at point (xs ++ p ∷ ends_at at point ∷ [])
  last_left_out xs p l after at point each later spare = record {
    signal = record {
      some = some_in_end xs p (ends_at at point ∷ []);
      each = replaced_end shape xs p l (ends_at at point) [] [] each
          (record { rising = lt_trans order later; needed = tt; ends = tt }, (record { rising = tt; needed = tt; ends = refl }, tt));
    };
    begins = start_kept xs p p (ends_at at point ∷ []) (l ∷ []) refl;
    ends = stop_end xs p (ends_at at point ∷ []);
    worth = λ t v. (left_worth xs p l after at point t v order spare, worth_left xs p l after at point t v order later spare);
    shapes = left_shapes xs p l after at point;
  }
    where
      order : time p <ʳ time l
      order = (each_end (IsKnot shape) xs (p ∷ l ∷ []) each).0.rising

  -- the three cases, by the places in the list
  pub step_first : (old new : List (Knot P)) (after : P) (at : Frac) (point : P) → length old ≡ 1 → stop old <ʳ value at
      → ((front : List (Knot P)) (last : Knot P) → old ≡ front ++ last ∷ [] → new ≡ front ++ goes_on last after ∷ ends_at at point ∷ [])
      → GoesOn shape old after at point new
  step_first [] new after at point count later put = absurd (omega (arith, count))
  step_first (l ∷ []) new after at point count later put = subst (GoesOn shape (l ∷ []) after at point) (sym (put [] l refl))
      (first_kept l after at point later)
  step_first (l ∷ m ∷ ks) new after at point count later put = absurd (omega (arith, count))

  -- the knots end in p, at the place n, and in l, at the place m
  pub record EndInTwo (knots : List (Knot P)) (n m : ℕ) (p l : Knot P) : Type 0 where
    -- nothing comes after l
    pub count : length knots ≡ n + 2
    -- which stands next to p
    pub next : m ≡ n + 1
    -- they stand at the two places
    pub first : p ≡ get_or knots n p
    -- the second of them last
    pub second : l ≡ get_or knots m l

  split_ends : (old : List (Knot P)) (n m : ℕ) (p l : Knot P) → EndInTwo old n m p l → old ≡ take n old ++ p ∷ l ∷ []
  split_ends old n m p l two = split_two old n p l two.count two.first (read_at old two.next two.second)

  split_last : (old : List (Knot P)) (n m : ℕ) (p l : Knot P) → EndInTwo old n m p l → old ≡ (take n old ++ p ∷ []) ++ l ∷ []
  split_last old n m p l two = split_ends old n m p l two ∙ sym (append_assoc (take n old) (p ∷ []) (l ∷ []))

  last_time : (xs : List (Knot P)) (p l : Knot P) (at : Frac) → stop (xs ++ p ∷ l ∷ []) <ʳ value at → time l <ʳ value at
  last_time xs p l at h = subst (λ s. s <ʳ value at) (stop_end xs p (l ∷ [])) h

  -- where the last knot is needed
  pub step_kept : {n m : ℕ} (old new : List (Knot P)) (p l : Knot P) (after : P) (at : Frac) (point : P) → EndInTwo old n m p l
      → Each (IsKnot shape) old → stop old <ʳ value at → ¬ CanBeLeftOut shape p (goes_on l after)
      → ((front : List (Knot P)) (last : Knot P) → old ≡ front ++ last ∷ [] → new ≡ front ++ goes_on last after ∷ ends_at at point ∷ [])
      → GoesOn shape old after at point new
  step_kept {n} {m} old new p l after at point two each later not_spare put =
      let e = split_ends old n m p l two in
      subst (λ ks. GoesOn shape ks after at point new) (sym e)
      (subst (GoesOn shape (take n old ++ p ∷ l ∷ []) after at point)
      (sym (put (take n old ++ p ∷ []) l (split_last old n m p l two) ∙ append_assoc (take n old) (p ∷ [])
      (goes_on l after ∷ ends_at at point ∷ [])))
      (last_kept (take n old) p l after at point (subst (Each (IsKnot shape)) e each)
      (last_time (take n old) p l at (subst (λ ks. stop ks <ʳ value at) e later)) not_spare))

  -- and where it leaves
  pub step_left : {n : ℕ} (old : List (Knot P)) (m : ℕ) (p l : Knot P) (after : P) (at : Frac) (point : P) → EndInTwo old n m p l
      → Each (IsKnot shape) old → stop old <ʳ value at → CanBeLeftOut shape p (goes_on l after)
      → GoesOn shape old after at point (set old m (ends_at at point))
  step_left {n} old m p l after at point two each later spare =
      let count = two.count in
      subst (λ m. GoesOn shape old after at point (set old m (ends_at at point))) (sym two.next) (
      let e = split_ends old n m p l two in
      let place : length (take n old ++ p ∷ []) ≡ n + 1 = omega (arith, length-append (take n old) (p ∷ []), length-take n old, count) in
      let new : set old (n + 1) (ends_at at point) ≡ take n old ++ p ∷ ends_at at point ∷ [] =
      ap (λ ks. set ks (n + 1) (ends_at at point)) (split_last old n m p l two) ∙ set_at (take n old ++ p ∷ []) l [] (ends_at at point)
      (n + 1) place
      ∙ append_assoc (take n old) (p ∷ []) (ends_at at point ∷ []) in
      subst (λ ks. GoesOn shape ks after at point (set old (n + 1) (ends_at at point))) (sym e)
      (subst (GoesOn shape (take n old ++ p ∷ l ∷ []) after at point) (sym new)
      (last_left_out (take n old) p l after at point (subst (Each (IsKnot shape)) e each)
      (last_time (take n old) p l at (subst (λ ks. stop ks <ʳ value at) e later)) spare)))
