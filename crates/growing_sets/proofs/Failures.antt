-- Where each time of a window is of X, or has a time of Y on the way to it, all of the window is of X, or the times on the way go on in both
-- to one of Y: by the lists.
use Rattle.std.proofs.Common.{◌⊎◌, inl, inr, true, false, List}
use Rattle.rational.specs.Time.{Rational, Within, ◌≤ʳ◌, ◌<ʳ◌}
use Rattle.rational.proofs.Order.{le_refl, le_trans, le_of_lt, le_or_lt, same_of_le}
use Rattle.rational.specs.Places.{Place, After, Upto}
use Rattle.frac128.specs.Cuts.{place}
use Rattle.growing_sets.specs.Spans.{Lies, IsOn, IsAmong, AreTidy}
use Rattle.growing_sets.specs.Reaching.{GoesTo, GoesBack}
use Rattle.growing_sets.specs.declared.stretch.Stretch.{Stretch}
use Rattle.rational.proofs.PlaceLemmas.{sides, before_through, le_through, upto_earlier, after_later}
use Rattle.growing_sets.proofs.RunLemmas.{gap_next, gap_last, one_of, on_one}
use Rattle.growing_sets.proofs.Gaps.{meets, covers, on_same}

-- just before a time, and just after it
abbrev pub at_time : Rational → Place
at_time t = record { at = t; after = false }

abbrev pub past_time : Rational → Place
past_time t = record { at = t; after = true }

module _ (x y z : List Stretch) (tidy_x : AreTidy x) (tidy_z : AreTidy z) where
  -- all of the window that begins at e and ends by d is of X; or from some time on the way from t to e both go on to a time of Y
  abbrev pub AllOrBroken : Place → Rational → Rational → Type 0
  AllOrBroken d t e = ((u : Rational) → e ≤ʳ u → Upto d u → IsOn x u) ⊎ ((v : Rational) × Within t e v × GoesTo z y v)

  -- the same backwards: the window begins past c and ends at e
  abbrev pub AllOrBrokenBack : Place → Rational → Rational → Type 0
  AllOrBrokenBack c t e = ((u : Rational) → After c u → u ≤ʳ e → IsOn x u) ⊎ ((v : Rational) × Within e t v × After c v × GoesBack z y v)

  module _ (d : Place) (t e : Rational) (way : t ≤ʳ e) (in_z : (u : Rational) → t ≤ʳ u → Upto d u → IsOn y u ⊎ IsOn x u → IsOn z u)
      (fails : (u : Rational) → e ≤ʳ u → Upto d u → IsOn x u ⊎ ((v : Rational) × Within t u v × IsOn y v)) where
    -- a time of Y on the way
    broken_at : (v : Rational) → Within t e v → Upto d v → IsOn y v → AllOrBroken d t e
    broken_at v w u o = inr (v, w, (v, le_refl v, o, λ s k. on_same z v s (same_of_le k.above k.below) (in_z v w.above u (inl o))))

    -- none on the way and none in the stretch of both that has the window's first time: then there is none soon after it
    none_after : (s : Stretch) → IsAmong s z → Lies s e → ((w : Rational) → IsOn y w → e ≤ʳ w → Upto (place s.to) w → ⊥)
        → ((w : Rational) → IsOn y w → t ≤ʳ w → w ≤ʳ e → ⊥) → (v : Rational) → e <ʳ v → Upto d v → IsOn y v → ⊥
    none_after s m l here before v k u o =
        let past : After (place s.to) v = elim (sides (place s.to) v) [ inl i ↦ absurd (here v o (le_of_lt k) i) | inr a ↦ a ] in
        let g = gap_next z s (past_time v) tidy_z m (before_through (place s.to) (past_time v) v past (le_refl v)) in
        let after_e : e ≤ʳ g.0 = le_through (place s.to) e g.0 l.1 g.1 in
        let upto_d : Upto d g.0 = upto_earlier d g.0 v g.2 u in
        elim (fails g.0 after_e upto_d) [
          | inl i ↦ g.3 g.0 g.1 (le_refl g.0) (in_z g.0 (le_trans way after_e) upto_d (inr i))
          | inr (w, i, j) ↦ elim (le_or_lt w e) [
            | inl n ↦ before w j i.above n
            | inr n ↦ elim (sides (place s.to) w) [
              | inl p ↦ here w j (le_of_lt n) p
              | inr p ↦ g.3 w p i.below (in_z w i.above (upto_earlier d w g.0 i.below upto_d) (inl j))
            ]
          ]
        ]

    -- some time of Y comes after the window has begun, and none on the way
    broken_past : (v : Rational) → e <ʳ v → Upto d v → IsOn y v → ((w : Rational) → IsOn y w → t ≤ʳ w → w ≤ʳ e → ⊥) → IsOn z e → AllOrBroken d t e
    broken_past v k u o before on =
        let s = one_of z e on in
        elim (meets (at_time e) (place (s.0).to) y) [
          | inl (w, i, a, b) ↦ inr (
            e,
            record { above = way; below = le_refl e },
            (w, a, i, λ q r. on_one z s.0 q s.1 (after_later (place (s.0).from) e q r.above s.2.0, upto_earlier (place (s.0).to) q w r.below b)),
          )
          | inr none ↦ absurd (none_after s.0 s.1 s.2 none before v k u o)
        ]

    -- ahead of a time all of the window fails, or the way to it is broken
    pub all_or_broken : AllOrBroken d t e
    all_or_broken = elim (covers (at_time e) d x tidy_x) [
      | inl all ↦ inl all
      | inr (u, a, b, n) ↦ elim (fails u a b) [
        | inl i ↦ absurd (n i)
        | inr (v, w, o) ↦ elim (meets (at_time t) (past_time e) y) [
          | inl (r, i, f, g) ↦ broken_at r (record { above = f; below = g }) (upto_earlier d r u (le_trans g a) b) i
          | inr none ↦ elim (le_or_lt v e) [
            | inl l ↦ absurd (none v o w.above l)
            | inr l ↦
                let ude : Upto d e = upto_earlier d e u a b in
                elim (fails e (le_refl e) ude) [
                  | inl i ↦ broken_past v l (upto_earlier d v u w.below b) o none (in_z e way ude (inr i))
                  | inr (r, i, j) ↦ absurd (none r j i.above i.below)
                ]
          ]
        ]
      ]
    ]

  module _ (c : Place) (t e : Rational) (way : e ≤ʳ t) (in_z : (u : Rational) → After c u → u ≤ʳ t → IsOn y u ⊎ IsOn x u → IsOn z u)
      (fails : (u : Rational) → After c u → u ≤ʳ e → IsOn x u ⊎ ((v : Rational) × Within u t v × IsOn y v)) where
    broken_back_at : (v : Rational) → Within e t v → After c v → IsOn y v → AllOrBrokenBack c t e
    broken_back_at v w a o = inr (v, w, a, (v, le_refl v, o, λ s k. on_same z v s (same_of_le k.above k.below) (in_z v a w.below (inl o))))

    none_before : (s : Stretch) → IsAmong s z → Lies s e → ((w : Rational) → IsOn y w → w ≤ʳ e → After (place s.from) w → ⊥)
        → ((w : Rational) → IsOn y w → e ≤ʳ w → w ≤ʳ t → ⊥) → (v : Rational) → v <ʳ e → After c v → IsOn y v → ⊥
    none_before s m l here after v k a o =
        let past : Upto (place s.from) v = elim (sides (place s.from) v) [ inl i ↦ i | inr i ↦ absurd (here v o (le_of_lt k) i) ] in
        let g = gap_last z s (at_time v) tidy_z m (before_through (at_time v) (place s.from) v (le_refl v) past) in
        let upto_e : g.0 ≤ʳ e = le_through (place s.from) g.0 e g.2 l.0 in
        let after_c : After c g.0 = after_later c v g.0 g.1 a in
        elim (fails g.0 after_c upto_e) [
          | inl i ↦ g.3 g.0 (le_refl g.0) g.2 (in_z g.0 after_c (le_trans upto_e way) (inr i))
          | inr (w, i, j) ↦ elim (le_or_lt e w) [
            | inl n ↦ after w j n i.below
            | inr n ↦ elim (sides (place s.from) w) [
              | inl p ↦ g.3 w i.above p (in_z w (after_later c g.0 w i.above after_c) i.below (inl j))
              | inr p ↦ here w j (le_of_lt n) p
            ]
          ]
        ]

    broken_back_past : (v : Rational) → v <ʳ e → After c v → IsOn y v → ((w : Rational) → IsOn y w → e ≤ʳ w → w ≤ʳ t → ⊥) → IsOn z e → AllOrBrokenBack c t e
    broken_back_past v k a o after on =
        let s = one_of z e on in
        elim (meets (place (s.0).from) (past_time e) y) [
          | inl (w, i, b, f) ↦ inr (
            e,
            record { above = le_refl e; below = way },
            after_later c v e (le_of_lt k) a,
            (w, f, i, λ q r. on_one z s.0 q s.1 (after_later (place (s.0).from) w q r.above b, upto_earlier (place (s.0).to) q e r.below s.2.1)),
          )
          | inr none ↦ absurd (none_before s.0 s.1 s.2 (λ w i f b. none w i b f) after v k a o)
        ]

    -- behind a time too all of the window fails, or the way to it is broken
    pub all_or_broken_back : AllOrBrokenBack c t e
    all_or_broken_back = elim (covers c (past_time e) x tidy_x) [
      | inl all ↦ inl all
      | inr (u, a, b, n) ↦ elim (fails u a b) [
        | inl i ↦ absurd (n i)
        | inr (v, w, o) ↦ elim (meets (at_time e) (past_time t) y) [
          | inl (r, i, f, g) ↦ broken_back_at r (record { above = f; below = g }) (after_later c u r (le_trans b f) a) i
          | inr none ↦ elim (le_or_lt e v) [
            | inl l ↦ absurd (none v o l w.below)
            | inr l ↦
                let ace : After c e = after_later c u e b a in
                elim (fails e ace (le_refl e)) [
                  | inl i ↦ broken_back_past v l (after_later c u v w.above a) o none (in_z e ace way (inr i))
                  | inr (r, i, j) ↦ absurd (none r j i.above i.below)
                ]
          ]
        ]
      ]
    ]
