-- A set of the times whose windows see a sure time goes on to tell so.
use Rattle.std.proofs.Common.{◌⊎◌, inl, inr, List}
use Rattle.rational.specs.Time.{Rational}
use Rattle.rational.specs.Places.{Place, AtMost, Upto}
use Rattle.growing_sets.specs.Spans.{Lies, IsOn, Grows}
use Rattle.growing_sets.specs.Steps.{BySome, IsPast, Tells, Gains}
use Rattle.growing_sets.specs.Windows.{Sees}
use Rattle.growing_sets.specs.Sure.{SeesWithin, SeesUpto, SeesItself, SeesSure}
use Rattle.growing_sets.specs.declared.stretch.Stretch.{Stretch}
use Rattle.growing_sets.specs.declared.window.Window.{Window}
use Rattle.rational.proofs.PlaceLemmas.{sides}
use Rattle.growing_sets.proofs.RunLemmas.{one_of, on_one}
use Rattle.growing_sets.proofs.SetLaws.{some_by, by_some}

-- what an entry adds to it: for what the input gained, as far as that was sure before; for all that became sure; and what the input gained itself
abbrev pub BecomesSure : Window → Place → Place → List Stretch → List Stretch → Rational → Type 0
BecomesSure w before sure spans fresh t =
    (BySome (SeesUpto w before) fresh t ⊎ BySome (SeesWithin w before sure) spans t) ⊎ SeesItself w sure fresh t

module _ (w : Window) (before sure : Place) {bounds : Stretch} {old new told fresh x x' fx : List Stretch} where
  -- with what becomes sure the set tells which windows see a sure time
  pub sure_tells : AtMost before sure → Gains x x' fx → Tells bounds old (SeesSure w before x)
      → Grows bounds old new told fresh (BecomesSure w before sure x' fx) → Tells bounds new (SeesSure w sure x')
  sure_tells order gx h g = record { has = has_it; only = only_it }
    where
      by_sure : (t : Rational) → Lies bounds t → ((u : Rational) × (IsOn x' u × Upto sure u) × Sees w t u) → IsOn new t
      by_sure t b (u, o, s) = elim (sides before u) [
        | inr a ↦
            let p = one_of x' u o.0 in
            g.adds t b (inl (inr (by_some (SeesWithin w before sure) x' p.0 t p.1 (u, (p.2, a, o.1), s))))
        | inl a ↦ elim (gx.gained u o.0) [
          | inl m ↦ g.keeps t (h.has t b (inl (u, (m, a), s)))
          | inr m ↦
              let p = one_of fx u m in
              g.adds t b (inl (inl (by_some (SeesUpto w before) fx p.0 t p.1 (u, (p.2, p.2.0, a), s))))
        ]
      ]

      has_it : (t : Rational) → Lies bounds t → SeesSure w sure x' t → IsOn new t
      has_it t b (inl k) = by_sure t b k
      has_it t b (inr (o, s)) = elim (sides sure t) [
        | inl a ↦ by_sure t b (t, (o, a), s)
        | inr a ↦ elim (gx.gained t o) [
          | inl m ↦ g.keeps t (h.has t b (inr (m, s)))
          | inr m ↦ let p = one_of fx t m in g.adds t b (inr (by_some (IsPast sure) fx p.0 t p.1 (p.2, a), s))
        ]
      ]

      wider : (t : Rational) → SeesSure w before x t → SeesSure w sure x' t
      wider t (inl (u, o, s)) = inl (u, (gx.kept u o.0, order u o.1), s)
      wider t (inr (o, s)) = inr (gx.kept t o, s)

      added : (t : Rational) → BecomesSure w before sure x' fx t → SeesSure w sure x' t
      added t (inl (inl q)) =
          let p = some_by (SeesUpto w before) fx t q in
          inl (p.2.0, (gx.own p.2.0 (on_one fx p.0 p.2.0 p.1 p.2.1.0), order p.2.0 p.2.1.2), p.2.2)
      added t (inl (inr q)) =
          let p = some_by (SeesWithin w before sure) x' t q in inl (p.2.0, (on_one x' p.0 p.2.0 p.1 p.2.1.0, p.2.1.2), p.2.2)
      added t (inr q) = let p = some_by (IsPast sure) fx t q.0 in inr (gx.own t (on_one fx p.0 t p.1 p.2.0), q.1)

      only_it : (t : Rational) → IsOn new t → Lies bounds t × SeesSure w sure x' t
      only_it t n = elim (g.only t n) [
        | inl o ↦ let q = h.only t o in (q.0, wider t q.1)
        | inr q ↦ (q.0, added t q.1)
      ]
