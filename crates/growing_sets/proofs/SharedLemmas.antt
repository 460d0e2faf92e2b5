-- The first and the last that a list of stretches has within one.
use Rattle.std.proofs.Common.{◌≡◌, ◌⊎◌, inl, inr, refl, sym, subst, ℕ, zero, suc, ◌<◌, List, [], ◌∷◌, Some, length, take, drop}
use Rattle.std.specs.Prelude.{slice_get, ◌↔◌}
use Rattle.std.proofs.lemmas.Option.{same_Some}
use Rattle.rational.specs.Rational.{Rational, ◌≤ʳ◌}
use Rattle.rational.proofs.Order.{le_refl}
use Rattle.rational.proofs.Lists.{slice_get_there}
use Rattle.rational.specs.Places.{Place, After, Upto, Before}
use Rattle.frac128.specs.Cuts.{place}
use Rattle.growing_sets.specs.Spans.{Lies, IsOn, AreTidy, BeginsAfter, EndBefore, NoneEndsBefore}
use Rattle.growing_sets.specs.Reaching.{IsFirstBegin, IsLastEnd}
use Rattle.growing_sets.specs.declared.stretch.Stretch.{Stretch}
use Rattle.growing_sets.proofs.StretchLemmas.{rises}
use Rattle.rational.proofs.PlaceLemmas.{sides, not_both, between, upto_of_before, after_of_before, at_most_of_not_before}
use Rattle.rational.proofs.PlaceLemmas.{after_at_most, le_through, upto_earlier, after_later}
use Rattle.growing_sets.proofs.SpanLemmas.{no_stretch, on_at, on_parts, front_of, front_upto, rest_after, reaches_at, from_one_on}

-- a time of those from a place on is one of the one there, or of those after it
drop_case : (xs : List Stretch) (at : ℕ) (t : Rational) → IsOn (drop at xs) t
    → (n : Stretch) × (slice_get xs at ≡ Some n) × (Lies n t ⊎ IsOn (drop (suc at) xs) t)
drop_case [] zero t h = absurd h
drop_case [] (suc at) t h = absurd h
drop_case (x ∷ xs) zero t h = (x, refl, h)
drop_case (x ∷ xs) (suc at) t h = drop_case xs at t h

-- those after one lie after it
after_one_in : (xs : List Stretch) (at : ℕ) (n : Stretch) (t : Rational) → AreTidy xs → slice_get xs at ≡ Some n
    → IsOn (drop (suc at) xs) t → After (place n.to) t
after_one_in [] at n t h e o = absurd (no_stretch n e)
after_one_in (x ∷ xs) zero n t h e o = subst (λ s. After (place s.to) t) (same_Some x n e) (rest_after (place x.to) xs t h.1 h.0 o)
after_one_in (x ∷ xs) (suc at) n t h e o = after_one_in xs at n t h.1 e o

-- a time on some stretches is on the first, or on the last
on_less : (xs : List Stretch) (i : ℕ) (s : Stretch) (t : Rational) → slice_get xs i ≡ Some s → IsOn (take (suc i) xs) t → IsOn (take i xs) t ⊎ Lies s t
on_less [] i s t e h = absurd (no_stretch s e)
on_less (x ∷ xs) zero s t e (inl h) = inr (subst (λ r. Lies r t) (same_Some x s e) h)
on_less (x ∷ xs) zero s t e (inr h) = absurd h
on_less (x ∷ xs) (suc i) s t e (inl h) = inl (inl h)
on_less (x ∷ xs) (suc i) s t e (inr h) = elim (on_less xs i s t e h) [ inl k ↦ inl (inr k) | inr k ↦ inr k ]

-- one of those that end before a place ends before it
end_at : (c : Place) (xs : List Stretch) (k : ℕ) (n : Stretch) → EndBefore c (take (suc k) xs) → slice_get xs k ≡ Some n → Before (place n.to) c
end_at c [] k n f e = absurd (no_stretch n e)
end_at c (x ∷ xs) zero n f e = subst (λ s. Before (place s.to) c) (same_Some x n e) f.0
end_at c (x ∷ xs) (suc k) n f e = end_at c xs k n f.1 e

-- the one at a place begins after what those from there on begin after
begins_one : (c : Place) (xs : List Stretch) (at : ℕ) (n : Stretch) → BeginsAfter c (drop at xs) → slice_get xs at ≡ Some n → Before c (place n.from)
begins_one c [] at n b e = absurd (no_stretch n e)
begins_one c (x ∷ xs) zero n b e = subst (λ s. Before c (place s.from)) (same_Some x n e) b
begins_one c (x ∷ xs) (suc at) n b e = begins_one c xs at n b e

-- where none from a place on begins before the part ends, nothing there has a time of it
pub nothing_after : (spans : List Stretch) (part : Stretch) (at : ℕ) → BeginsAfter (place part.to) (drop at spans)
    → (n : Stretch) → slice_get spans at ≡ Some n → (t : Rational) → Lies n t → ¬ (Lies part t)
nothing_after spans part at b n e t l k =
    not_both (place part.to) t k.1 (after_of_before (place part.to) (place n.from) t (begins_one (place part.to) spans at n b e) l.0)

module _ (spans : List Stretch) (tidy : AreTidy spans) (part : Stretch) where
  -- what stands at the place has nothing of the part
  abbrev pub NothingAt : ℕ → Type 0
  NothingAt at = (n : Stretch) → slice_get spans at ≡ Some n → (t : Rational) → Lies n t → ¬ (Lies part t)

  module _ (at : ℕ) (n s : Stretch) (e : slice_get spans at ≡ Some n) (is : (t : Rational) → Lies s t ↔ (Lies n t × Lies part t)) where
    -- from each time before its end there is a later one in what is shared, and so back from each time after its beginning
    up_to_end : (t : Rational) → Upto (place s.to) t → (u : Rational) × (t ≤ʳ u) × (Lies part u × IsOn spans u)
    up_to_end t k = elim (sides (place s.from) t) [
      | inr a ↦ let x = (is t).0 (a, k) in (t, le_refl t, (x.1, on_at spans at n t e x.0))
      | inl b ↦
          let m = between (place s.from) (place s.to) (rises s) in
          let x = (is m.0).0 (m.1, m.2) in
          (m.0, le_through (place s.from) t m.0 b m.1, (x.1, on_at spans at n m.0 e x.0))
    ]

    down_to_begin : (t : Rational) → After (place s.from) t → (u : Rational) × (u ≤ʳ t) × (Lies part u × IsOn spans u)
    down_to_begin t k = elim (sides (place s.to) t) [
      | inl a ↦ let x = (is t).0 (k, a) in (t, le_refl t, (x.1, on_at spans at n t e x.0))
      | inr b ↦
          let m = between (place s.from) (place s.to) (rises s) in
          let x = (is m.0).0 (m.1, m.2) in
          (m.0, le_through (place s.to) m.0 t m.2 b, (x.1, on_at spans at n m.0 e x.0))
    ]

    -- the first that does not end before the part does has the last of the part, if it has something of it
    pub last_in : NoneEndsBefore (place part.to) (drop at spans) → IsLastEnd spans part (place s.to)
    last_in rest = record { bounds = λ u l o. within u l; reached = up_to_end }
      where
        within : (u : Rational) → Lies part u → Upto (place s.to) u
        within u l = elim (sides (place s.to) u) [
          | inl k ↦ k
          | inr k ↦
              let m = between (place s.from) (place s.to) (rises s) in
              let x = (is m.0).0 (m.1, m.2) in
              let le = le_through (place s.to) m.0 u m.2 k in
              absurd (not_both (place s.to) u ((is u).1 (
                (
                  after_later (place n.from) m.0 u le x.0.0,
                  at_most_of_not_before (place part.to) (place n.to) (reaches_at (place part.to) spans at n rest e) u l.1,
                ),
                l,
              )).1 k)
        ]

    -- and the first that does not end before the part begins has the first
    pub first_in : EndBefore (place part.from) (take at spans) → IsFirstBegin spans part (place s.from)
    first_in front = record { bounds = within; reached = down_to_begin }
      where
        within : (u : Rational) → Lies part u → IsOn spans u → After (place s.from) u
        within u l o = elim (sides (place s.from) u) [
          | inr k ↦ k
          | inl k ↦ elim (on_parts spans at u o) [
            | inl f ↦ absurd (not_both (place part.from) u (front_upto (place part.from) (take at spans) u front f) l.0)
            | inr r ↦
                let m = between (place s.from) (place s.to) (rises s) in
                let x = (is m.0).0 (m.1, m.2) in
                ((is u).1 (
                  (
                    from_one_on spans at n u tidy e r,
                    upto_earlier (place n.to) u m.0 (le_through (place s.from) u m.0 k m.1) x.0.1,
                  ),
                  l,
                )).0
          ]
        ]

  -- where the first that does not end before the part does has nothing of it, none from there on has
  pub none_from : (at : ℕ) → NoneEndsBefore (place part.to) (drop at spans) → NothingAt at → (u : Rational) → Lies part u → ¬ (IsOn (drop at spans) u)
  none_from at rest none u l o =
      let d = drop_case spans at u o in elim d.2 [
        | inl k ↦ none d.0 d.1 u k l
        | inr k ↦
            not_both (place (d.0).to) u
            (at_most_of_not_before (place part.to) (place (d.0).to) (reaches_at (place part.to) spans at d.0 rest d.1) u l.1)
            (after_one_in spans at d.0 u tidy d.1 k)
      ]

  -- then the one before it has the last
  pub last_before : (at k : ℕ) (n s : Stretch) → at ≡ suc k → NoneEndsBefore (place part.to) (drop at spans) → NothingAt at → slice_get spans k ≡ Some n
      → ((t : Rational) → Lies s t ↔ (Lies n t × Lies part t)) → IsLastEnd spans part (place s.to)
  last_before at k n s next rest none e is = record { bounds = within; reached = up_to_end k n s e is }
    where
      within : (u : Rational) → Lies part u → IsOn spans u → Upto (place s.to) u
      within u l o = elim (on_parts spans at u o) [
        | inr r ↦ absurd (none_from at rest none u l r)
        | inl f ↦ elim (on_less spans k n u e (subst (λ i. IsOn (take i spans) u) next f)) [
          | inr i ↦ ((is u).1 (i, l)).1
          | inl g ↦
              let m = between (place s.from) (place s.to) (rises s) in
              let x = (is m.0).0 (m.1, m.2) in
              upto_earlier (place s.to) u m.0
              (le_through (place n.from) u m.0 (front_upto (place n.from) (take k spans) u (front_of spans k n tidy e) g) x.0.0) m.2
        ]
      ]

  -- or there is none
  pub last_not : (at k : ℕ) → at ≡ suc k → k < length spans → EndBefore (place part.to) (take at spans) → NoneEndsBefore (place part.to) (drop at spans)
      → NothingAt at → NothingAt k → (u : Rational) → Lies part u → ¬ (IsOn spans u)
  last_not at k next within front rest none nor u l o = elim (on_parts spans at u o) [
    | inr r ↦ none_from at rest none u l r
    | inl f ↦ elim (on_less spans k (slice_get_there spans k within).0 u (slice_get_there spans k within).1 (subst (λ i. IsOn (take i spans) u) next f)) [
      | inr i ↦ nor (slice_get_there spans k within).0 (slice_get_there spans k within).1 u i l
      | inl g ↦ before_it g
    ]
  ]
    where
      before_it : IsOn (take k spans) u → ⊥
      before_it g =
          let n = slice_get_there spans k within in
          let m = between (place (n.0).from) (place (n.0).to) (rises n.0) in
          let le = le_through (place (n.0).from) u m.0 (front_upto (place (n.0).from) (take k spans) u (front_of spans k n.0 tidy n.1) g) m.1 in
          let ends = end_at (place part.to) spans k n.0 (subst (λ i. EndBefore (place part.to) (take i spans)) next front) n.1 in
          nor n.0 n.1 m.0 (m.1, m.2)
          (after_later (place part.from) u m.0 le l.0, upto_of_before (place (n.0).to) (place part.to) m.0 ends m.2)

  -- where the first that does not end before the part begins has nothing of it, the next one has the first
  pub first_after : (at : ℕ) (n s : Stretch) → EndBefore (place part.from) (take at spans) → NothingAt at → slice_get spans (suc at) ≡ Some n
      → ((t : Rational) → Lies s t ↔ (Lies n t × Lies part t)) → IsFirstBegin spans part (place s.from)
  first_after at n s front none e is = record { bounds = within; reached = down_to_begin (suc at) n s e is }
    where
      within : (u : Rational) → Lies part u → IsOn spans u → After (place s.from) u
      within u l o = elim (sides (place s.from) u) [
        | inr k ↦ k
        | inl k ↦ elim (on_parts spans at u o) [
          | inl f ↦ absurd (not_both (place part.from) u (front_upto (place part.from) (take at spans) u front f) l.0)
          | inr r ↦
              let d = drop_case spans at u r in elim d.2 [
                | inl i ↦ absurd (none d.0 d.1 u i l)
                | inr i ↦
                    let m = between (place s.from) (place s.to) (rises s) in
                    let x = (is m.0).0 (m.1, m.2) in
                    ((is u).1 (
                      (
                        from_one_on spans (suc at) n u tidy e i,
                        upto_earlier (place n.to) u m.0 (le_through (place s.from) u m.0 k m.1) x.0.1,
                      ),
                      l,
                    )).0
              ]
        ]
      ]

  -- or there is none
  pub first_not : (at : ℕ) → EndBefore (place part.from) (take at spans) → NoneEndsBefore (place part.from) (drop at spans) → NothingAt at → NothingAt (suc at)
      → (u : Rational) → Lies part u → ¬ (IsOn spans u)
  first_not at front rest none nor u l o = elim (on_parts spans at u o) [
    | inl f ↦ not_both (place part.from) u (front_upto (place part.from) (take at spans) u front f) l.0
    | inr r ↦
        let d = drop_case spans at u r in elim d.2 [
          | inl i ↦ none d.0 d.1 u i l
          | inr i ↦ beyond d.0 d.1 (drop_case spans (suc at) u i)
        ]
  ]
    where
      beyond : (p : Stretch) → slice_get spans at ≡ Some p
          → (n : Stretch) × (slice_get spans (suc at) ≡ Some n) × (Lies n u ⊎ IsOn (drop (suc (suc at)) spans) u) → ⊥
      beyond p i (n, e, inl k) = nor n e u k l
      beyond p i (n, e, inr k) =
          let m = between (place n.from) (place n.to) (rises n) in
          let behind = after_one_in spans at p m.0 tidy i (on_drop spans (suc at) n m.0 e (m.1, m.2)) in
          nor n e m.0 (m.1, m.2) (
            after_at_most (place part.from) (place p.to) m.0
                (at_most_of_not_before (place part.from) (place p.to) (reaches_at (place part.from) spans at p rest i)) behind,
            upto_earlier (place part.to) m.0 u (le_through (place n.to) m.0 u m.2 (after_one_in spans (suc at) n u tidy e k)) l.1,
          )
        where
          on_drop : (xs : List Stretch) (j : ℕ) (n : Stretch) (t : Rational) → slice_get xs j ≡ Some n → Lies n t → IsOn (drop j xs) t
          on_drop [] j n t e h = absurd (no_stretch n e)
          on_drop (x ∷ xs) zero n t e h = inl (subst (λ s. Lies s t) (sym (same_Some x n e)) h)
          on_drop (x ∷ xs) (suc j) n t e h = on_drop xs j n t e h
