-- A signal cut at both ends.
use Rattle.std.proofs.Common.{◌≡◌, ℕ, zero, suc, ◌+◌, ◌-◌, ◌<◌, ◌≤◌, ◌⊎◌, inl, inr, List, [], ◌∷◌, ◌++◌, length}
use Rattle.std.proofs.Common.{get_or, take, drop, Some, refl, sym, ◌∙◌, ap, subst, arith, length-take}
use Rattle.std.specs.Prelude.{slice_get, slice_range}
use Rattle.std.proofs.lemmas.Bool.{cases_lt}
use Rattle.std.proofs.lemmas.Option.{slice_get_read, slice_get-get_or, slice_get_past}
use Rattle.std.proofs.lemmas.List.{append_assoc, take_more, drop_more, take-append-drop, drop-take, get_or_default, get_or-take}
use Rattle.rational.specs.Time.{Rational, ◌≤ʳ◌, ◌<ʳ◌, ◌≈◌}
use Rattle.rational.specs.Extended.{Extended, Passes, value_at}
use Rattle.rational.proofs.Order.{le_of_lt, le_of_same, ge_of_same, le_trans, lt_of_lt_of_le, lt_of_le_of_lt, not_lt_of_le, same_refl, same_sym, same_trans}
use Rattle.rational.proofs.AffineLemmas.{same_symᵉ, same_transᵉ, value_same}
use Rattle.frac128.specs.Value.{value}
use Rattle.frac128.specs.declared.frac.Frac.{Frac}
use Rattle.value_laws.specs.Members.{ShapeOf}
use Rattle.pl_signal.specs.declared.knot.Knot.{Knot}
use Rattle.pl_signal.specs.Knots.{time, stop, HasShape, Each, IsWorth, NextIsNeeded, IsKnot, IsSignal}
use Rattle.pl_signal.specs.Cuts.{StandsFrom, IsCut}
use Rattle.pl_signal.proofs.KnotLemmas.{each_end, replaced_end, worth_in, worth_end, shape_in, shape_front, shape_end, stop_end, some_in_end}
use Rattle.pl_signal.proofs.BuildingLemmas.{ends_at}
use Rattle.pl_signal.proofs.SampleLemmas.{IsSample, read_point, read_after, read_none}
use Rattle.pl_signal.proofs.Telling.{told_alike}
use Rattle.pl_signal.proofs.Values.{start_first, stop_at, rising_places, worth_same}

module _ {P : Type 0} (shape : ShapeOf P) where
  -- the shape with which a signal that ends after p and before or at n ends at a time
  abbrev pub IsCutBefore : Knot P → Knot P → Frac → P → Type 0
  IsCutBefore p n to last = ((value to ≈ time n) × (last ≡ n.point)) ⊎ ((time p <ʳ value to) × (value to <ʳ time n) × (last ≡ p.after))

  before_cut : (p n : Knot P) (to : Frac) (last : P) → time p <ʳ time n → IsCutBefore p n to last → time p <ʳ value to
  before_cut p n to last h (inl c) = lt_of_lt_of_le h (ge_of_same c.0)
  before_cut p n to last h (inr c) = c.0

  cut_end_worth : (p n : Knot P) (ns : List (Knot P)) (to : Frac) (last : P) (t : Rational) (v : Extended) → time p <ʳ time n → IsCutBefore p n to last
      → IsWorth shape (p ∷ ends_at to last ∷ []) t v → IsWorth shape (p ∷ n ∷ ns) t v
  cut_end_worth p n ns to last t v h c (inl w) = inl w
  cut_end_worth p n ns to last t v h (inl c) (inr (inl w)) =
      inr (inl (record { after = w.after; before = lt_of_lt_of_le w.before (le_of_same c.0); worth = w.worth }))
  cut_end_worth p n ns to last t v h (inr c) (inr (inl w)) =
      inr (inl (record { after = w.after; before = lt_of_lt_of_le w.before (le_of_lt c.1); worth = w.worth }))
  cut_end_worth p n ns to last t v h (inl c) (inr (inr (inl w))) =
      inr (inr (inl (record { when = same_trans w.when c.0; worth = subst (λ p. Passes (shape.function p) t v) c.1 w.worth })))
  cut_end_worth p n ns to last t v h (inr c) (inr (inr (inl w))) =
      inr (inl (record {
        after = lt_of_lt_of_le c.0 (ge_of_same w.when);
        before = lt_of_le_of_lt (le_of_same w.when) c.1;
        worth = subst (λ p. Passes (shape.function p) t v) c.2 w.worth;
      }))
  cut_end_worth p n ns to last t v h c (inr (inr (inr (inl w)))) = absurd w
  cut_end_worth p n ns to last t v h c (inr (inr (inr (inr w)))) = absurd w

  -- cut at its end
  pub cut_end : (xs : List (Knot P)) (p n : Knot P) (ns : List (Knot P)) (to : Frac) (last : P) → IsSignal shape (xs ++ p ∷ n ∷ ns) → IsCutBefore p n to last
      → IsSignal shape (xs ++ p ∷ ends_at to last ∷ [])
      × ((t : Rational) (v : Extended) → IsWorth shape (xs ++ p ∷ ends_at to last ∷ []) t v → IsWorth shape (xs ++ p ∷ n ∷ ns) t v)
      × ((q : P) → HasShape (xs ++ p ∷ ends_at to last ∷ []) q → HasShape (xs ++ p ∷ n ∷ ns) q)
  cut_end xs p n ns to last s c = (
    record {
      some = some_in_end xs p (ends_at to last ∷ []);
      each = replaced_end shape xs p n (ends_at to last) ns [] s.each
          (record { rising = before_cut p n to last order c; needed = tt; ends = tt }, (record { rising = tt; needed = tt; ends = refl }, tt));
    },
    (λ t v w. elim (worth_in shape xs p p (ends_at to last ∷ []) (n ∷ ns) t v refl w)
        [ inl k ↦ k | inr k ↦ worth_end shape xs (p ∷ n ∷ ns) t v (cut_end_worth p n ns to last t v order c k) ]),
    λ q h. elim (shape_in xs (p ∷ ends_at to last ∷ []) q h) [ inl k ↦ shape_front xs (p ∷ n ∷ ns) q k | inr k ↦ shape_end xs (p ∷ n ∷ ns) q (by_end q k c) ],
  )
    where
      order : time p <ʳ time n
      order = (each_end (IsKnot shape) xs (p ∷ n ∷ ns) s.each).0.rising

      of_last : (q : P) → q ≡ last → IsCutBefore p n to last → HasShape (p ∷ n ∷ ns) q
      of_last q e (inl c) = inr (inr (inl (e ∙ c.1)))
      of_last q e (inr c) = inr (inl (e ∙ c.2))

      by_end : (q : P) → HasShape (p ∷ ends_at to last ∷ []) q → IsCutBefore p n to last → HasShape (p ∷ n ∷ ns) q
      by_end q (inl h) c = inl h
      by_end q (inr (inl h)) c = inr (inl h)
      by_end q (inr (inr (inl h))) c = of_last q h c
      by_end q (inr (inr (inr (inl h)))) c = of_last q h c
      by_end q (inr (inr (inr (inr h)))) c = absurd h

  abbrev pub begins_at : Knot P → Frac → P → Knot P
  begins_at k from first = record { time = from; point = first; after = k.after }

  cut_start_worth : (k b : Knot P) (bs : List (Knot P)) (from : Frac) (first : P) (t : Rational) (v : Extended) → value from <ʳ time b → StandsFrom k from first
      → IsWorth shape (begins_at k from first ∷ b ∷ bs) t v → IsWorth shape (k ∷ b ∷ bs) t v
  cut_start_worth k b bs from first t v h (inl c) (inl w) =
      inl (record { when = same_trans w.when (same_sym c.0); worth = subst (λ p. Passes (shape.function p) t v) c.1 w.worth })
  cut_start_worth k b bs from first t v h (inr c) (inl w) =
      inr (inl (record {
        after = lt_of_lt_of_le c.0 (ge_of_same w.when);
        before = lt_of_le_of_lt (le_of_same w.when) h;
        worth = subst (λ p. Passes (shape.function p) t v) c.1 w.worth;
      }))
  cut_start_worth k b bs from first t v h (inl c) (inr (inl w)) =
      inr (inl (record { after = lt_of_le_of_lt (le_of_same c.0) w.after; before = w.before; worth = w.worth }))
  cut_start_worth k b bs from first t v h (inr c) (inr (inl w)) =
      inr (inl (record { after = lt_of_lt_of_le c.0 (le_of_lt w.after); before = w.before; worth = w.worth }))
  cut_start_worth k b bs from first t v h c (inr (inr w)) = inr (inr w)

  -- cut at its start
  pub cut_start : (xs : List (Knot P)) (k b : Knot P) (bs : List (Knot P)) (from : Frac) (first : P) → IsSignal shape (xs ++ k ∷ b ∷ bs)
      → value from <ʳ time b → StandsFrom k from first
      → IsSignal shape (begins_at k from first ∷ b ∷ bs)
      × ((t : Rational) (v : Extended) → IsWorth shape (begins_at k from first ∷ b ∷ bs) t v → IsWorth shape (xs ++ k ∷ b ∷ bs) t v)
      × ((q : P) → HasShape (begins_at k from first ∷ b ∷ bs) q → HasShape (xs ++ k ∷ b ∷ bs) q)
  cut_start xs k b bs from first s h c = (
    record { some = some_in_end [] (begins_at k from first) (b ∷ bs); each = (record { rising = h; needed = needed_as bs each.0.needed; ends = tt }, each.1) },
    (λ t v w. worth_end shape xs (k ∷ b ∷ bs) t v (cut_start_worth k b bs from first t v h c w)),
    λ q m. shape_end xs (k ∷ b ∷ bs) q (by_start q m c),
  )
    where
      each : Each (IsKnot shape) (k ∷ b ∷ bs)
      each = each_end (IsKnot shape) xs (k ∷ b ∷ bs) s.each

      needed_as : (bs : List (Knot P)) → NextIsNeeded shape k (b ∷ bs) → NextIsNeeded shape (begins_at k from first) (b ∷ bs)
      needed_as [] n = tt
      needed_as (d ∷ bs) n = λ spare. n (record { here = spare.here; on = spare.on })

      by_start : (q : P) → HasShape (begins_at k from first ∷ b ∷ bs) q → StandsFrom k from first → HasShape (k ∷ b ∷ bs) q
      by_start q (inl m) (inl c) = inl (m ∙ c.1)
      by_start q (inl m) (inr c) = inr (inl (m ∙ c.1))
      by_start q (inr m) c = inr m

  -- a stretch that begins with the knot k, or after it and before the knots of D, and ends after p, before n or with it
  record IsStretch (k : Knot P) (D : List (Knot P)) (p n : Knot P) (from : Frac) (first : P) (to : Frac) (last : P) : Type 0 where
    order : value from <ʳ value to
    begins : StandsFrom k from first
    later : (b : Knot P) (bs : List (Knot P)) → D ≡ b ∷ bs → value from <ʳ time b
    ends : IsCutBefore p n to last

  -- between a knot k and the knots of D on one side, and n on the other
  cut_both : {p n : Knot P} {from to : Frac} {first last : P} (xs : List (Knot P)) (k : Knot P) (D ys ns : List (Knot P))
      → xs ++ k ∷ D ≡ ys ++ p ∷ [] → IsSignal shape (ys ++ p ∷ n ∷ ns) → IsStretch k D p n from first to last
      → IsCut shape (ys ++ p ∷ n ∷ ns) from to (begins_at k from first ∷ D ++ ends_at to last ∷ [])
  cut_both {p} {n} {from} {to} {first} {last} xs k D ys ns e s between = by_list D e between.later
    where
      ended : IsSignal shape (ys ++ p ∷ ends_at to last ∷ [])
          × ((t : Rational) (v : Extended) → IsWorth shape (ys ++ p ∷ ends_at to last ∷ []) t v → IsWorth shape (ys ++ p ∷ n ∷ ns) t v)
          × ((q : P) → HasShape (ys ++ p ∷ ends_at to last ∷ []) q → HasShape (ys ++ p ∷ n ∷ ns) q)
      ended = cut_end ys p n ns to last s between.ends

      whole_is : (D : List (Knot P)) → xs ++ k ∷ D ≡ ys ++ p ∷ [] → ys ++ p ∷ ends_at to last ∷ [] ≡ xs ++ (k ∷ D ++ ends_at to last ∷ [])
      whole_is D e = sym (append_assoc ys (p ∷ []) (ends_at to last ∷ [])) ∙ ap (λ ks. ks ++ ends_at to last ∷ []) (sym e) ∙ append_assoc xs (k ∷ D)
          (ends_at to last ∷ [])

      by_start : (b : Knot P) (bs : List (Knot P)) → ys ++ p ∷ ends_at to last ∷ [] ≡ xs ++ k ∷ b ∷ bs → value from <ʳ time b → stop (b ∷ bs) ≡ value to
          → IsCut shape (ys ++ p ∷ n ∷ ns) from to (begins_at k from first ∷ b ∷ bs)
      by_start b bs same h stops =
          let started = cut_start xs k b bs from first (subst (IsSignal shape) same ended.0) h between.begins in record {
            tells = told_alike shape (ys ++ p ∷ n ∷ ns) (begins_at k from first ∷ b ∷ bs) (value from) (value to) s started.0 (same_refl (value from))
                (subst (λ u. stop (b ∷ bs) ≈ u) stops (same_refl (stop (b ∷ bs))))
                (λ t v w. ended.1 t v (subst (λ ks. IsWorth shape ks t v) (sym same) (started.1 t v w)));
            shapes = λ q h. ended.2 q (subst (λ ks. HasShape ks q) (sym same) (started.2 q h));
          }

      by_list : (D : List (Knot P)) → xs ++ k ∷ D ≡ ys ++ p ∷ [] → ((b : Knot P) (bs : List (Knot P)) → D ≡ b ∷ bs → value from <ʳ time b)
          → IsCut shape (ys ++ p ∷ n ∷ ns) from to (begins_at k from first ∷ D ++ ends_at to last ∷ [])
      by_list [] e later = by_start (ends_at to last) [] (whole_is [] e) between.order refl
      by_list (b ∷ bs) e later = by_start b (bs ++ ends_at to last ∷ []) (whole_is (b ∷ bs) e) (later b bs refl) (stop_end (b ∷ bs) (ends_at to last) [])

  first_of : (ks : List (Knot P)) (n m : ℕ) (b : Knot P) (bs : List (Knot P)) → take m (drop n ks) ≡ b ∷ bs → slice_get ks n ≡ Some b
  first_of [] zero zero b bs h = absurd (cc)
  first_of [] zero (suc m) b bs h = absurd (cc)
  first_of [] (suc n) zero b bs h = absurd (cc)
  first_of [] (suc n) (suc m) b bs h = absurd (cc)
  first_of (k ∷ ks) zero zero b bs h = absurd (cc)
  first_of (k ∷ ks) zero (suc m) b bs h = let s : k ≡ b = cc in ap Some s
  first_of (k ∷ ks) (suc n) m b bs h = first_of ks n m b bs h

  -- where a stretch begins: with the knot k, at the place i, or after it and before the next
  pub record BeginsIn (ks : List (Knot P)) (i : ℕ) (k : Knot P) (from : Frac) (first : P) : Type 0 where
    -- the place is one of the list
    pub inside : i < length ks
    -- k stands there
    pub at_i : k ≡ get_or ks i k
    -- the shape with which it begins
    pub stands : StandsFrom k from first
    -- the next knot comes after the beginning
    pub later : (b : Knot P) → slice_get ks (i + 1) ≡ Some b → value from <ʳ time b

  -- where it ends: after the knot p, at the place d, and before the next, n, or with that
  record EndsIn (ks : List (Knot P)) (d : ℕ) (p n : Knot P) (to : Frac) (last : P) : Type 0 where
    inside : d + 1 < length ks
    at_d : p ≡ get_or ks d p
    at_next : n ≡ get_or ks (d + 1) n
    -- the shape with which it ends
    stands : IsCutBefore p n to last

  -- the knot with which or after which the stretch begins is not later
  begun : (k : Knot P) (from : Frac) (first : P) → StandsFrom k from first → time k ≤ʳ value from
  begun k from first (inl h) = le_of_same h.0
  begun k from first (inr h) = le_of_lt h.0

  -- by the places of the knots
  cut_places : {i d : ℕ} {k p n : Knot P} {from to : Frac} {first last : P} (ks : List (Knot P)) → IsSignal shape ks → BeginsIn ks i k from first
      → EndsIn ks d p n to last → i ≤ d → value from <ʳ value to
      → IsCut shape ks from to (begins_at k from first ∷ slice_range ks (i + 1) (d + 1) ++ ends_at to last ∷ [])
  cut_places {i} {d} {k} {p} {n} {from} {to} {first} {last} ks s begins ends le order =
      subst (λ D. IsCut shape ks from to (begins_at k from first ∷ D ++ ends_at to last ∷ [])) middle_is
      (subst (λ os. IsCut shape os from to (begins_at k from first ∷ drop (i + 1) (take (d + 1) ks) ++ ends_at to last ∷ [])) (sym ks_is)
      (cut_both (take i (take (d + 1) ks)) k (drop (i + 1) (take (d + 1) ks)) (take d ks) (drop (d + 1 + 1) ks)
      (sym front_is ∙ front_too) (subst (IsSignal shape) ks_is s) between))
    where
      more : d + 1 < length ks
      more = ends.inside

      middle_is : drop (i + 1) (take (d + 1) ks) ≡ slice_range ks (i + 1) (d + 1)
      middle_is = let e : d + 1 ≡ (i + 1) + (d + 1 - (i + 1)) = omega (arith, le) in
          ap (λ m. drop (i + 1) (take m ks)) e ∙ drop-take (i + 1) (d + 1 - (i + 1)) ks

      between : IsStretch k (drop (i + 1) (take (d + 1) ks)) p n from first to last
      between = record {
        order = order;
        begins = begins.stands;
        later = λ b bs h. begins.later b (first_of ks (i + 1) (d + 1 - (i + 1)) b bs (sym middle_is ∙ h));
        ends = ends.stands;
      }

      ks_is : ks ≡ take d ks ++ p ∷ n ∷ drop (d + 1 + 1) ks
      ks_is = sym (take-append-drop d ks) ∙ ap (λ os. take d ks ++ os) (drop_more ks d p (omega (arith, more)) ∙ ap (λ q. q ∷ drop (d + 1) ks) (sym ends.at_d)
          ∙ ap (λ os. p ∷ os) (drop_more ks (d + 1) n more ∙ ap (λ q. q ∷ drop (d + 1 + 1) ks) (sym ends.at_next)))

      count : length (take (d + 1) ks) ≡ d + 1
      count = omega (arith, length-take (d + 1) ks, more)

      front_is : take (d + 1) ks ≡ take i (take (d + 1) ks) ++ k ∷ drop (i + 1) (take (d + 1) ks)
      front_is = sym (take-append-drop i (take (d + 1) ks)) ∙ ap (λ os. take i (take (d + 1) ks) ++ os)
          (drop_more (take (d + 1) ks) i k (omega (arith, count, le))
          ∙ ap (λ q. q ∷ drop (i + 1) (take (d + 1) ks)) (get_or-take (d + 1) ks i k (omega (arith, le)) ∙ sym begins.at_i))

      front_too : take (d + 1) ks ≡ take d ks ++ p ∷ []
      front_too = take_more ks d p (omega (arith, more)) ∙ ap (λ q. take d ks ++ q ∷ []) (sym ends.at_d)

  -- one instant
  pub cut_instant : {i : ℕ} {k : Knot P} (ks : List (Knot P)) (from to : Frac) (first : P) → IsSignal shape ks → BeginsIn ks i k from first
      → value from ≈ value to → value from ≤ʳ stop ks → IsCut shape ks from to (ends_at from first ∷ [])
  cut_instant {i} {k} ks from to first s begins same last = record {
    tells = told_alike shape ks (ends_at from first ∷ []) (value from) (value to) s
        (record { some = omega arith; each = (record { rising = tt; needed = tt; ends = refl }, tt) }) (same_refl (value from)) same by_worth;
    shapes = by_shape begins.stands;
  }
    where
      here : slice_get ks i ≡ Some k
      here = slice_get_read ks (length ks) i k refl begins.inside begins.at_i

      more : time k <ʳ value from → i + 1 < length ks
      more h = let inside = begins.inside in elim (cases_lt (i + 1) (length ks)) as (λ v. i + 1 < length ks) [
        | inl l ↦ l
        | inr l ↦ absurd (read_none shape ks i k (value from) here (omega (arith, l, inside)) h
            (record { above = le_trans (start_first shape ks i k s.each here) (le_of_lt h); below = last }))
      ]

      reading : StandsFrom k from first → IsSample shape ks (value from) first
      reading (inl c) = subst (IsSample shape ks (value from)) (sym c.1) (read_point shape ks i k (value from) s here c.0)
      reading (inr c) = subst (IsSample shape ks (value from)) (sym c.1) (read_after shape ks i k (value from) s here (more c.0) c.0 begins.later)

      by_worth : (t : Rational) (v : Extended) → IsWorth shape (ends_at from first ∷ []) t v → IsWorth shape ks t v
      by_worth t v (inl w) = worth_same shape ks (value_at (shape.function first) (value from)) v (same_sym w.when)
          (same_symᵉ v (value_at (shape.function first) (value from))
          (same_transᵉ v (value_at (shape.function first) t) (value_at (shape.function first) (value from)) w.worth
          (value_same (shape.function first) w.when))) (reading begins.stands).2
      by_worth t v (inr (inl w)) = absurd w
      by_worth t v (inr (inr w)) = absurd w

      by_shape : StandsFrom k from first → (q : P) → HasShape (ends_at from first ∷ []) q → HasShape ks q
      by_shape b q (inl h) = subst (HasShape ks) (sym h) (reading b).1
      by_shape b q (inr (inl h)) = subst (HasShape ks) (sym h) (reading b).1
      by_shape b q (inr (inr h)) = absurd h

  -- a place after which the time still comes has a knot behind it
  pub not_last : (ks : List (Knot P)) (j : ℕ) (k : Knot P) (to : Rational) → slice_get ks j ≡ Some k → j < length ks → to ≤ʳ stop ks → time k <ʳ to
      → j + 1 < length ks
  not_last ks j k to here inside last h = elim (cases_lt (j + 1) (length ks)) as (λ v. j + 1 < length ks) [
    | inl l ↦ l
    | inr l ↦ absurd (not_lt_of_le (subst (λ s. to ≤ʳ s) (stop_at shape ks j k here (slice_get_past ks (j + 1) l)) last) h)
  ]

  -- an earlier knot has an earlier place
  pub place_before : (ks : List (Knot P)) (i j : ℕ) (k n : Knot P) → Each (IsKnot shape) ks → slice_get ks i ≡ Some k → slice_get ks j ≡ Some n
      → time k <ʳ time n → i < j
  place_before ks i j k n h e f l = elim (cases_lt i j) as (λ v. i < j) [
    | inl b ↦ b
    | inr b ↦ absurd (not_lt_of_le (rising_places shape ks j i n k h f e b) l)
  ]

  -- where the stretch ends at a knot
  pub cut_at_knot : {i : ℕ} {k : Knot P} {from : Frac} {first : P} (ks : List (Knot P)) (j : ℕ) (n : Knot P) (to : Frac) → IsSignal shape ks
      → BeginsIn ks i k from first → j < length ks → n ≡ get_or ks j n → value from <ʳ value to → time n ≈ value to
      → (i < j) × IsCut shape ks from to (begins_at k from first ∷ slice_range ks (i + 1) j ++ ends_at to n.point ∷ [])
  cut_at_knot {i} {k} {from} {first} ks j n to s begins in_j at_j order here =
      let before = place_before ks i j k n s.each (slice_get_read ks (length ks) i k refl begins.inside begins.at_i)
      (slice_get_read ks (length ks) j n refl in_j at_j)
      (lt_of_le_of_lt (begun k from first begins.stands) (lt_of_lt_of_le order (ge_of_same here))) in
      let place : (j - 1) + 1 ≡ j = omega (arith, before) in
      let p = get_or ks (j - 1) k in
      let ends : EndsIn ks (j - 1) p n to n.point = record {
        inside = omega (arith, before, in_j);
        at_d = get_or_default ks (j - 1) k p (omega (arith, in_j));
        at_next = subst (λ e. n ≡ get_or ks e n) (sym place) at_j;
        stands = inl (same_sym here, refl);
      } in (
        before,
        subst (λ e. IsCut shape ks from to (begins_at k from first ∷ slice_range ks (i + 1) e ++ ends_at to n.point ∷ [])) place
            (cut_places ks s begins ends (omega (arith, before)) order),
      )

  -- where it ends after a knot
  pub cut_after_knot : {i : ℕ} {k : Knot P} {from : Frac} {first : P} (ks : List (Knot P)) (j : ℕ) (n : Knot P) (to : Frac) → IsSignal shape ks
      → BeginsIn ks i k from first → j < length ks → n ≡ get_or ks j n → value from <ʳ value to → time n <ʳ value to
      → ((b : Knot P) → slice_get ks (j + 1) ≡ Some b → value to <ʳ time b) → value to ≤ʳ stop ks
      → (i ≤ j) × (j + 1 < length ks) × IsCut shape ks from to (begins_at k from first ∷ slice_range ks (i + 1) (j + 1) ++ ends_at to n.after ∷ [])
  cut_after_knot {i} {k} {from} {first} ks j n to s begins in_j at_j order before_to after_to last =
      let here = slice_get_read ks (length ks) j n refl in_j at_j in
      let more = not_last ks j n (value to) here in_j last before_to in
      let m = get_or ks (j + 1) k in
      let next = slice_get-get_or ks (j + 1) k more in
      let before = place_before ks i (j + 1) k m s.each (slice_get_read ks (length ks) i k refl begins.inside begins.at_i) next
      (lt_of_le_of_lt (begun k from first begins.stands) (lt_of_lt_of_le order (le_of_lt (after_to m next)))) in
      let ends : EndsIn ks j n m to n.after = record {
        inside = more;
        at_d = at_j;
        at_next = get_or_default ks (j + 1) k m more;
        stands = inr (before_to, after_to m next, refl);
      } in (
        omega (arith, before),
        more,
        cut_places ks s begins ends (omega (arith, before)) order,
      )
