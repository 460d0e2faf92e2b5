-- Runs that let go of the times before one, and are carried on from before it, tell the same of the others.
use Rattle.std.proofs.Common.{inl, inr, refl, Bool, true, false, List}
use Rattle.std.specs.Prelude.{IsTrue}
use Rattle.rational.specs.Time.{Rational, ◌≤ʳ◌}
use Rattle.rational.proofs.Order.{le_of_lt, le_or_lt, le_trans}
use Rattle.rational.specs.Places.{After}
use Rattle.frac128.specs.Cuts.{place}
use Rattle.growing_sets.specs.Spans.{AreTidy, IsAmong, IsOn, Lies}
use Rattle.growing_sets.specs.Steps.{HoldsFrom}
use Rattle.growing_sets.specs.Reaching.{GoesBackBy, IsCarried}
use Rattle.early_verdict.specs.Fitting.{Says}
use Rattle.early_verdict.specs.Letting.{BeginsAtOnce}
use Rattle.growing_sets.specs.declared.stretch.Stretch.{Stretch}
use Rattle.growing_sets.specs.declared.grown.Grown.{Grown}
use Rattle.rational.proofs.PlaceLemmas.{at_most_of_not_before, between, sides, after_at_most, le_through, upto_earlier}
use Rattle.rational.proofs.PlaceLemmas.{after_later}
use Rattle.growing_sets.proofs.ReachLemmas.{carried_in}
use Rattle.growing_sets.proofs.RunLemmas.{on_one}

module _ (d : Rational) (runs runs' spans spans' : List Stretch) (x y : Grown) (b b' : Bool)
    (runs_in : (t : Rational) → d ≤ʳ t → IsOn runs t → IsOn runs' t) (runs_out : (t : Rational) → IsOn runs' t → IsOn runs t)
    (spans_in : (t : Rational) → d ≤ʳ t → IsOn spans t → IsOn spans' t) (spans_out : (t : Rational) → IsOn spans' t → IsOn spans t)
    (less : (t : Rational) → Lies y.bounds t → Lies x.bounds t) (has : (t : Rational) → Lies y.bounds t → IsOn x.spans.items t → IsOn y.spans.items t)
    (only : (t : Rational) → IsOn y.spans.items t → IsOn x.spans.items t × Lies y.bounds t) (after : (t : Rational) → Lies y.bounds t → d ≤ʳ t)
    (begins : BeginsAtOnce b' y) (tidy : AreTidy y.spans.items) (h : Says x (GoesBackBy b (place x.bounds.from) runs spans)) where
  within : (t v : Rational) → Lies y.bounds t → After (place y.bounds.from) v → v ≤ʳ t → Lies y.bounds v
  within t v l a m = (a, upto_earlier (place y.bounds.to) v t m l.1)

  -- what goes back from a time does so from a later one, where the runs have each time between
  on_to : (v t : Rational) → v ≤ʳ t → ((w : Rational) → v ≤ʳ w → w ≤ʳ t → IsOn runs w) → GoesBackBy b (place x.bounds.from) runs spans v
      → GoesBackBy b (place x.bounds.from) runs spans t
  on_to v t l all (inl (u, k, o, z)) = inl (
    u,
    le_trans k l,
    o,
    λ w i. elim (le_or_lt w v) [ inl m ↦ z w (record { above = i.above; below = m }) | inr m ↦ all w (le_of_lt m) i.below ],
  )
  on_to v t l all (inr k) = inr (record {
    on = k.on;
    after = after_later (place x.bounds.from) v t l k.after;
    all = λ w a m. elim (le_or_lt w v) [ inl n ↦ k.all w a n | inr n ↦ all w (le_of_lt n) m ];
  })

  -- a run that comes from before the bounds is carried on
  carried : (t : Rational) → Lies y.bounds t → ((v : Rational) → After (place y.bounds.from) v → v ≤ʳ t → IsOn x.spans.items v × IsOn runs v)
      → IsCarried b' (place y.bounds.from) runs' t
  carried t l all = record {
    on = by_begin b' begins;
    after = l.0;
    all = λ v a m. runs_in v (after v (within t v l a m)) (all v a m).1;
  }
    where
      held : (p : Stretch) × IsAmong p y.spans.items × HoldsFrom p (place y.bounds.from)
      held = carried_in y.spans.items (place y.bounds.from) true tidy t
          (record { on = refl; after = l.0; all = λ v a m. has v (within t v l a m) (all v a m).0 })

      by_begin : (c : Bool) → BeginsAtOnce c y → IsTrue c
      by_begin true g = refl
      by_begin false g = absurd (g.no refl held.0 held.1 held.2)

  still : (t : Rational) → Lies y.bounds t → GoesBackBy b (place x.bounds.from) runs spans t → GoesBackBy b' (place y.bounds.from) runs' spans' t
  still t l (inl (u, k, s, z)) = elim (sides (place y.bounds.from) u) [
    | inl e ↦ inr (carried t l (λ v a m.
        let uv = le_through (place y.bounds.from) u v e a in (
          h.has v (less v (within t v l a m)) (inl (u, uv, s, λ w i. z w (record { above = i.above; below = le_trans i.below m }))),
          z v (record { above = uv; below = m }),
        )))
    | inr a ↦
        let f = after u (within t u l a k) in
        inl (u, k, spans_in u f s, λ w i. runs_in w (le_trans f i.above) (z w i))
  ]
  still t l (inr k) = inr (carried t l (λ v a m.
      let i = less v (within t v l a m) in
      (h.has v i (inr (record { on = k.on; after = i.0; all = λ w n j. k.all w n (le_trans j m) })), k.all v i.0 m)))

  has_it : (t : Rational) → Lies y.bounds t → GoesBackBy b' (place y.bounds.from) runs' spans' t → IsOn y.spans.items t
  has_it t l (inl (u, k, s, z)) = has t l (h.has t (less t l) (inl (u, k, spans_out u s, λ w i. runs_out w (z w i))))
  has_it t l (inr k) =
      let p = begins.yes k.on in
      let begun = at_most_of_not_before (place p.0.from) (place y.bounds.from) p.2.0 in
      elim (sides (place p.0.to) t) [
        | inl e ↦ on_one y.spans.items p.0 t p.1 (after_at_most (place p.0.from) (place y.bounds.from) t begun l.0, e)
        | inr e ↦
            let m = between (place y.bounds.from) (place p.0.to) p.2.1 in
            let on = on_one y.spans.items p.0 m.0 p.1 (after_at_most (place p.0.from) (place y.bounds.from) m.0 begun m.1, m.2) in
            has t l (h.has t (less t l) (on_to m.0 t (le_through (place p.0.to) m.0 t m.2 e)
            (λ w i j. runs_out w (k.all w (after_later (place y.bounds.from) m.0 w i m.1) j)) (h.only m.0 (only m.0 on).0).1))
      ]

  -- a run that was cut and is carried on tells the later times as before
  pub says_back : Says y (GoesBackBy b' (place y.bounds.from) runs' spans')
  says_back = record { has = has_it; only = λ t o. let c = only t o in (c.1, still t c.1 (h.only t c.0).1) }
