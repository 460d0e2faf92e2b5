-- Gaps right beside a stretch of a list, and what a list has between two places.
use Rattle.std.proofs.Common.{◌⊎◌, inl, inr, List, [], ◌∷◌}
use Rattle.rational.specs.Time.{Rational}
use Rattle.rational.proofs.Order.{le_of_same, ge_of_same}
use Rattle.rational.specs.Rational.{◌≈◌}
use Rattle.rational.specs.Places.{Place, After, Upto, Before}
use Rattle.frac128.specs.Cuts.{place}
use Rattle.growing_sets.specs.Spans.{IsOn, IsAmong, AreTidy}
use Rattle.growing_sets.specs.Steps.{HoldsFrom}
use Rattle.growing_sets.specs.declared.stretch.Stretch.{Stretch}
use Rattle.rational.proofs.PlaceLemmas.{sides, not_both, between, share, before_through, upto_earlier, after_later}
use Rattle.rational.proofs.PlaceLemmas.{after_of_before, at_most_of_not_before, after_at_most, le_through}
use Rattle.growing_sets.proofs.StretchLemmas.{rises}
use Rattle.growing_sets.proofs.RunLemmas.{gap_before, gap_after, one_of, on_one, decided, decided_among}
use Rattle.growing_sets.proofs.SetLaws.{decided_from}

-- the list has some time between two places, or none
pub meets : (c d : Place) (xs : List Stretch)
    → ((u : Rational) × IsOn xs u × After c u × Upto d u) ⊎ ((u : Rational) → IsOn xs u → After c u → Upto d u → ⊥)
meets c d [] = inr (λ u o a b. o)
meets c d (x ∷ xs) = elim (meets c d xs) [
  | inl m ↦ inl (m.0, inr m.1, m.2, m.3)
  | inr n ↦ by_first n (decided c d) (decided c (place x.to)) (decided (place x.from) d)
]
  where
    by_first : ((u : Rational) → IsOn xs u → After c u → Upto d u → ⊥) → Before c d ⊎ ¬ (Before c d) → Before c (place x.to) ⊎ ¬ (Before c (place x.to))
        → Before (place x.from) d ⊎ ¬ (Before (place x.from) d)
        → ((u : Rational) × IsOn (x ∷ xs) u × After c u × Upto d u) ⊎ ((u : Rational) → IsOn (x ∷ xs) u → After c u → Upto d u → ⊥)
    by_first n (inl b) (inl e) (inl f) =
        let s = share c d (place x.from) (place x.to) b (rises x) e f in inl (s.0, inl (s.3, s.4), s.1, s.2)
    by_first n (inr b) e f = inr (λ u o k l. b (before_through c d u k l))
    by_first n (inl b) (inr e) f = inr (λ u o k l. elim o [ inl i ↦ e (before_through c (place x.to) u k i.1) | inr r ↦ n u r k l ])
    by_first n (inl b) (inl e) (inr f) = inr (λ u o k l. elim o [ inl i ↦ f (before_through (place x.from) d u i.0 l) | inr r ↦ n u r k l ])

-- the list has each time between two places, or some is missing
pub covers : (c d : Place) (xs : List Stretch) → AreTidy xs
    → ((u : Rational) → After c u → Upto d u → IsOn xs u) ⊎ ((u : Rational) × After c u × Upto d u × ¬ (IsOn xs u))
covers c d xs tidy = by_order (decided c d)
  where
    by_end : (p : Stretch) → IsAmong p xs → HoldsFrom p c → Before (place p.to) d ⊎ ¬ (Before (place p.to) d)
        → ((u : Rational) → After c u → Upto d u → IsOn xs u) ⊎ ((u : Rational) × After c u × Upto d u × ¬ (IsOn xs u))
    by_end p m k (inl b) =
        let g = gap_after xs p d tidy m b in inr (g.0, after_of_before c (place p.to) g.0 k.1 g.1, g.2, g.3)
    by_end p m k (inr n) = inl (λ u a e. on_one xs p u m (
      after_at_most (place p.from) c u (at_most_of_not_before (place p.from) c k.0) a,
      at_most_of_not_before d (place p.to) n u e,
    ))

    -- no stretch holds the times right after the place
    by_none : ¬ ((p : Stretch) × IsAmong p xs × HoldsFrom p c) → Before c d
        → ((u : Rational) × IsOn xs u × After c u × Upto d u) ⊎ ((u : Rational) → IsOn xs u → After c u → Upto d u → ⊥)
        → ((u : Rational) → After c u → Upto d u → IsOn xs u) ⊎ ((u : Rational) × After c u × Upto d u × ¬ (IsOn xs u))
    by_none n b (inr none) = let t = between c d b in inr (t.0, t.1, t.2, λ o. none t.0 o t.1 t.2)
    by_none n b (inl (u, o, a, e)) =
        let p = one_of xs u o in
        elim (decided c (place (p.0).from)) [
          | inl k ↦ let g = gap_before xs p.0 c tidy p.1 k in inr (g.0, g.1, upto_earlier d g.0 u (le_through (place (p.0).from) g.0 u g.2 p.2.0) e, g.3)
          | inr k ↦ absurd (n (p.0, p.1, (k, before_through c (place (p.0).to) u a p.2.1)))
        ]

    by_order : Before c d ⊎ ¬ (Before c d) → ((u : Rational) → After c u → Upto d u → IsOn xs u) ⊎ ((u : Rational) × After c u × Upto d u × ¬ (IsOn xs u))
    by_order (inr n) = inl (λ u a e. absurd (n (before_through c d u a e)))
    by_order (inl b) = elim (decided_among (λ p. HoldsFrom p c) (λ p. decided_from p c) xs) [
      | inl (p, m, k) ↦ by_end p m k (decided (place p.to) d)
      | inr n ↦ by_none n b (meets c d xs)
    ]

-- the list has a time or not
pub decided_on : (xs : List Stretch) (t : Rational) → IsOn xs t ⊎ ¬ (IsOn xs t)
decided_on [] t = inr (λ h. h)
decided_on (x ∷ xs) t = elim (decided_on xs t) [
  | inl o ↦ inl (inr o)
  | inr n ↦ by_first n (sides (place x.from) t) (sides (place x.to) t)
]
  where
    by_first : ¬ (IsOn xs t) → Upto (place x.from) t ⊎ After (place x.from) t → Upto (place x.to) t ⊎ After (place x.to) t
        → IsOn (x ∷ xs) t ⊎ ¬ (IsOn (x ∷ xs) t)
    by_first n (inr a) (inl u) = inl (inl (a, u))
    by_first n (inl u) e = inr (λ o. elim o [ inl i ↦ not_both (place x.from) t u i.0 | inr r ↦ n r ])
    by_first n (inr a) (inr e) = inr (λ o. elim o [ inl i ↦ not_both (place x.to) t i.1 e | inr r ↦ n r ])

-- a list has a time by whatever pair it is written
pub on_same : (xs : List Stretch) (t u : Rational) → t ≈ u → IsOn xs t → IsOn xs u
on_same xs t u s o =
    let p = one_of xs t o in
    on_one xs p.0 u p.1 (after_later (place (p.0).from) t u (le_of_same s) p.2.0, upto_earlier (place (p.0).to) u t (ge_of_same s) p.2.1)
