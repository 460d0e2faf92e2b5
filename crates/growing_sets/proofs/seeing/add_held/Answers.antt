use Rattle.std.proofs.Common.{inl, inr, sym, subst}
use Rattle.std.proofs.Common.{◌≤◌, ◌^◌}
use Rattle.rational.specs.Time.{Rational}
use Rattle.time_sets.specs.Bounds.{reach_of}
use Rattle.std.specs.Prelude.{◌↔◌, unsigned_abs, MatchOption}
use Rattle.rational.specs.Places.{After, Upto, Before}
use Rattle.frac128.specs.Cuts.{place}
use Rattle.growing_sets.specs.Windows.{IsHeld}
use Rattle.time_sets.specs.Parts.{low_place}
use Rattle.rational.proofs.PlaceLemmas.{sides, not_both}
use Rattle.growing_sets.proofs.AddLemmas.{adds_none, adds_alike}
use Rattle.growing_sets.proofs.WindowLemmas.{on_good, near_fits}
use Rattle.growing_sets.proofs.seeing.add_held.Goals as goal

pub returns-then-not-precedes-clause-ok : goal.returns-then-not-precedes-clause-ok
returns-then-not-precedes-clause-ok c =
    on_good c.add.result c.add.ensures.ok
    (λ a. adds_alike a
    (λ t b h. (
      inl (λ x. let e = c.precedes.ensures.1 x in let f = c.if-not-precedes.true in cc),
      λ x. not_both (place c.past_high-to.result) t h.1 ((c.past_high-to.ensures t).1 x),
    ))
    (λ t b h. (
      subst (λ x. After (place x.from) t) (sym c.bounds-bounds.ensures) b.0,
      elim (sides (place c.past_high-to.result) t) [ inl u ↦ u | inr a ↦ absurd (h.1 ((c.past_high-to.ensures t).0 a)) ],
    )))

pub returns-in-Some-clause-ok : goal.returns-in-Some-clause-ok
returns-in-Some-clause-ok c =
    let w = c.args.w.now in
    let span = c.args.span.now in
    let near : unsigned_abs c.in-Some.low ≤ 2 ^ 32 = subst (λ l. reach_of l ≤ 2 ^ 32) c.in-Some.is w.near in
    let low : (t : Rational) → Upto (place c.before_low.result) t ↔ Before (low_place c.in-Some.low w.low_in t) (place span.from) =
    subst (λ k. (t : Rational) → Upto (place c.before_low.result) t ↔ Before (low_place k w.low_in t) (place span.from)) (near_fits c.in-Some.low near)
    c.before_low.ensures in
    on_good c.add-in-Some.result c.add-in-Some.ensures.ok
    (λ a. adds_alike a
    (λ t b h. (
      inr (subst (λ l. MatchOption l ⊥ (λ k. ¬ (Before (low_place k w.low_in t) (place span.from)))) (sym c.in-Some.is)
          (λ x. not_both (place c.before_low.result) t ((low t).1 x) h.0)),
      λ x. not_both (place c.past_high-to.result) t h.1 ((c.past_high-to.ensures t).1 x),
    ))
    (λ t b h. (
      elim h.0 [
        | inl n ↦ absurd (n (c.precedes.ensures.0 c.if-not-precedes.false))
        | inr m ↦ elim (sides (place c.before_low.result) t) [
          | inl u ↦ absurd (subst (λ l. MatchOption l ⊥ (λ k. ¬ (Before (low_place k w.low_in t) (place span.from)))) c.in-Some.is m
              ((low t).0 u))
          | inr a ↦ a
        ]
      ],
      elim (sides (place c.past_high-to.result) t) [ inl u ↦ u | inr a ↦ absurd (h.1 ((c.past_high-to.ensures t).0 a)) ],
    )))

pub returns-in-None-clause-ok : goal.returns-in-None-clause-ok
returns-in-None-clause-ok c =
    let w = c.args.w.now in
    let span = c.args.span.now in
    adds_none (IsHeld w (place c.args.start.now) span) c.requires
    (λ t b h. elim h.0 [
      | inl n ↦ n (c.precedes.ensures.0 c.if-not-precedes.false)
      | inr m ↦ subst (λ l. MatchOption l ⊥ (λ k. ¬ (Before (low_place k w.low_in t) (place span.from)))) c.in-None.is m
    ])
