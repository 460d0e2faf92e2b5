-- A since and an until of two signals have a value at each time.
use Rattle.std.proofs.Common.{◌≡◌, ℕ, zero, suc, ◌+◌, ◌-◌, ◌<◌, ◌≤◌, ◌⊎◌, inl, inr, List, [], ◌∷◌, length, get_or, Some, sym, subst, arith}
use Rattle.std.specs.Prelude.{slice_get}
use Rattle.std.proofs.lemmas.Option.{slice_get-get_or}
use Rattle.rational.specs.Rational.{Rational, ◌<ʳ◌, ◌≤ʳ◌, ◌≈◌}
use Rattle.rational.specs.Extended.{Extended, ◌≤ᵉ◌, value_at}
use Rattle.rational.proofs.Order.{le_or_lt, le_refl, le_of_lt, le_of_same, ge_of_same, le_trans}
use Rattle.rational.proofs.Order.{lt_of_lt_of_le, lt_of_le_of_lt, same_of_le, same_refl, same_sym}
use Rattle.rational.proofs.ExtendedLemmas.{le_transᵉ}
use Rattle.rational.proofs.AffineLemmas.{same_reflᵉ}
use Rattle.value_laws.specs.Members.{ShapeOf, ShapeLaws}
use Rattle.pl_signal.specs.declared.knot.Knot.{Knot}
use Rattle.pl_signal.specs.Knots.{time, start, stop, IsSignal, IsWorth}
use Rattle.pl_signal.specs.Places.{IsPlace}
use Rattle.pl_signal.proofs.Values.{every_time}
use Rattle.pl_signal.proofs.Moving.{at_knot_within, first_is}
use Rattle.pl_signal.proofs.Places.{first_place, more_knots, part_on_gap, place_next, place_stays}
use Rattle.pl_signal.proofs.SupLemmas.{signal_inf}
use Rattle.pl_signal.proofs.Telling.{worth_is_function}
use Rattle.rational.specs.UntilParts.{HasUntilToEnd, HasSinceFromStart}
use Rattle.rational.proofs.UntilExistence.{IsPlain, IsFit, Cuts, done, gap, known_first, known_last, since_known, until_known}
use Rattle.until_ops.proofs.SignalComposition.{at_least_lowest}

module _ {P : Type 0} (shape : ShapeOf P) (laws : ShapeLaws shape)
    (p q : List (Knot P)) (is_p : IsSignal shape p) (is_q : IsSignal shape q) (begins : start p ≈ start q) (ends : stop p ≈ stop q) where
  -- a signal is worth at most the highest value
  at_most_highest : (ks : List (Knot P)) (s : Rational) (v : Extended) → IsWorth shape ks s v → v ≤ᵉ shape.highest
  at_most_highest [] s v h = absurd h
  at_most_highest (k ∷ ks) s v (inl h) = le_transᵉ v (value_at (shape.function k.point) s) shape.highest h.worth.at_most (laws.highest_is_greatest k.point s)
  at_most_highest (k ∷ []) s v (inr (inl h)) = absurd h
  at_most_highest (k ∷ n ∷ ks) s v (inr (inl h)) = le_transᵉ v (value_at (shape.function k.after) s) shape.highest h.worth.at_most
      (laws.highest_is_greatest k.after s)
  at_most_highest (k ∷ ks) s v (inr (inr h)) = at_most_highest ks s v h

  -- the signal does not end before it begins
  in_order : start p ≤ʳ stop p
  in_order = let f = first_is shape p is_p.some in subst (λ t. t ≤ʳ stop p) (sym f.2) (at_knot_within shape p 0 f.0 is_p f.1).below

  abbrev SignalCuts : Rational → Rational → Type 0
  SignalCuts l r = Cuts shape.lowest shape.highest (IsWorth shape p) (IsWorth shape q) l r

  -- up to the next knot of either signal the two are their shapes after the knots at their places
  plain : {i j : ℕ} {m n : Knot P} (k l : Knot P) (t to : Rational) → IsPlace p t i → IsPlace q t j → slice_get p i ≡ Some k → slice_get q j ≡ Some l
      → slice_get p (i + 1) ≡ Some m → slice_get q (j + 1) ≡ Some n
      → to ≤ʳ time m → to ≤ʳ time n → IsPlain shape.lowest shape.highest (IsWorth shape p) (IsWorth shape q) t to (shape.function k.after)
      (shape.function l.after)
  plain {i} {j} k l t to place place' at_k at_l at_m at_n a b = record {
    left_on = λ u x y. (
      value_at (shape.function k.after) u,
      part_on_gap shape p i k u place at_k at_m a x y,
      same_reflᵉ
          (value_at (shape.function k.after) u),
    );
    right_on = λ u x y. (
      value_at (shape.function l.after) u,
      part_on_gap shape q j l u place' at_l at_n b x y,
      same_reflᵉ
          (value_at (shape.function l.after) u),
    );
    left_low = laws.lowest_is_least k.after;
    right_low = laws.lowest_is_least l.after;
    left_high = laws.highest_is_greatest k.after;
  }

  -- the place of a signal at a time up to the next knot
  next_place : (ks : List (Knot P)) (i : ℕ) (n : Knot P) (from to : Rational) → IsSignal shape ks → IsPlace ks from i → i + 1 < length ks
      → slice_get ks (i + 1) ≡ Some n → from <ʳ to → to ≤ʳ time n
      → (j : ℕ) × IsPlace ks to j × (i ≤ j)
  next_place ks i n from to s place more at_n a b = elim (le_or_lt (time n) to) as (λ v. (j : ℕ) × IsPlace ks to j × (i ≤ j)) [
    | inl e ↦ (i + 1, place_next shape ks i n to s more at_n (same_of_le e b), omega arith)
    | inr l ↦ (i, place_stays shape ks i n to place.inside (λ k h. lt_of_le_of_lt (place.not_later k h) a) at_n l, omega arith)
  ]

  -- one gap, up to the next knot of either signal
  one_cut : (fuel : ℕ) → ((i j : ℕ) (t : Rational) → IsPlace p t i → IsPlace q t j → t ≤ʳ stop p → (length p - i) + (length q - j) ≤ fuel
      → SignalCuts t (stop p))
      → (i j : ℕ) (t : Rational) → IsPlace p t i → IsPlace q t j → t <ʳ stop p → (length p - i) + (length q - j) ≤ suc fuel → SignalCuts t (stop p)
  one_cut fuel rest i j t place place' below few = by_order (le_or_lt (time m) (time n))
    where
      d : Knot P
      d = (first_is shape p is_p.some).0

      k : Knot P
      k = get_or p i d

      l : Knot P
      l = get_or q j d

      m : Knot P
      m = get_or p (i + 1) d

      n : Knot P
      n = get_or q (j + 1) d

      at_k : slice_get p i ≡ Some k
      at_k = slice_get-get_or p i d place.inside

      at_l : slice_get q j ≡ Some l
      at_l = slice_get-get_or q j d place'.inside

      more : i + 1 < length p
      more = more_knots shape p i k t place at_k below

      more' : j + 1 < length q
      more' = more_knots shape q j l t place' at_l (lt_of_lt_of_le below (le_of_same ends))

      at_m : slice_get p (i + 1) ≡ Some m
      at_m = slice_get-get_or p (i + 1) d more

      at_n : slice_get q (j + 1) ≡ Some n
      at_n = slice_get-get_or q (j + 1) d more'

      m_stop : time m ≤ʳ stop p
      m_stop = (at_knot_within shape p (i + 1) m is_p at_m).below

      n_stop : time n ≤ʳ stop p
      n_stop = le_trans (at_knot_within shape q (j + 1) n is_q at_n).below (ge_of_same ends)

      by_order : (time m ≤ʳ time n) ⊎ (time n <ʳ time m) → SignalCuts t (stop p)
      by_order (inl h) =
          let a = place.later m at_m in
          let b = next_place q j n t (time m) is_q place' more' at_n a h in
          gap (time m) (shape.function k.after) (shape.function l.after) a m_stop
          (plain k l t (time m) place place' at_k at_l at_m at_n (le_refl (time m)) h)
          (rest (i + 1) b.0 (time m) (place_next shape p i m (time m) is_p more at_m (same_refl (time m))) b.1 m_stop (let up : j ≤ b.0 = b.2 in omega arith))
      by_order (inr h) =
          let a = place'.later n at_n in
          let b = next_place p i m t (time n) is_p place more at_m a (le_of_lt h) in
          gap (time n) (shape.function k.after) (shape.function l.after) a n_stop
          (plain k l t (time n) place place' at_k at_l at_m at_n (le_of_lt h) (le_refl (time n)))
          (rest b.0 (j + 1) (time n) b.1 (place_next shape q j n (time n) is_q more' at_n (same_refl (time n))) n_stop (let up : i ≤ b.0 = b.2 in omega arith))

  cuts : (fuel : ℕ) (i j : ℕ) (t : Rational) → IsPlace p t i → IsPlace q t j → t ≤ʳ stop p → (length p - i) + (length q - j) ≤ fuel → SignalCuts t (stop p)
  cuts zero i j t place place' below few = let in_p = place.inside in absurd (omega arith)
  cuts (suc fuel) i j t place place' below few = by_stop (λ i j t a b c d. cuts fuel i j t a b c d) (le_or_lt (stop p) t)
    where
      by_stop : ((i j : ℕ) (t : Rational) → IsPlace p t i → IsPlace q t j → t ≤ʳ stop p → (length p - i) + (length q - j) ≤ fuel
          → SignalCuts t (stop p)) → (stop p ≤ʳ t) ⊎ (t <ʳ stop p) → SignalCuts t (stop p)
      by_stop rest (inl e) = done (same_of_le below e)
      by_stop rest (inr o) = one_cut fuel rest i j t place place' o few

  all_cuts : SignalCuts (start p) (stop p)
  all_cuts =
      let f = first_is shape p is_p.some in
      let h = first_is shape q is_q.some in
      cuts (length p + length q) 0 0 (start p) (first_place shape p f.0 (start p) is_p f.1 (subst (λ t. time f.0 ≈ t) (sym f.2) (same_refl (time f.0))))
      (first_place shape q h.0 (start p) is_q h.1 (subst (λ t. t ≈ start p) h.2 (same_sym begins))) in_order (omega arith)

  fit : IsFit shape.lowest shape.highest (IsWorth shape p) (IsWorth shape q) (start p) (stop p)
  fit = record {
    p_is = worth_is_function shape p is_p;
    q_is = worth_is_function shape q is_q;
    infs = λ on. signal_inf shape laws.highest_is_greatest p on;
    p_at = λ t w. let v = every_time shape p t is_p w in (v.0, v.1, at_least_lowest shape laws p t v.0 v.1, at_most_highest p t v.0 v.1);
    q_at = λ t w. let v = every_time shape q t is_q
        (record { above = le_trans (ge_of_same begins) w.above; below = le_trans w.below (le_of_same ends) }) in
        (v.0, v.1, at_least_lowest shape laws q t v.0 v.1);
  }

  -- a since of two signals has a value at each time
  pub has_since : HasSinceFromStart shape.lowest shape.highest (start p) (stop p) (IsWorth shape p) (IsWorth shape q)
  has_since t w = since_known shape.lowest shape.highest (IsWorth shape p) (IsWorth shape q) (start p) (stop p) fit (start p) (stop p) all_cuts
      (le_refl (start p)) (le_refl (stop p))
      (known_first shape.lowest shape.highest (IsWorth shape p) (IsWorth shape q) (start p) (stop p) fit in_order) t w.above w.below

  -- so for until
  pub has_until : HasUntilToEnd shape.lowest shape.highest (start p) (stop p) (IsWorth shape p) (IsWorth shape q)
  has_until t w = until_known shape.lowest shape.highest (IsWorth shape p) (IsWorth shape q) (start p) (stop p) fit (start p) (stop p) all_cuts
      (le_refl (start p)) (le_refl (stop p))
      (known_last shape.lowest shape.highest (IsWorth shape p) (IsWorth shape q) (start p) (stop p) fit in_order) t w.above w.below
