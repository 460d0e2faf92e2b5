use Rattle.std.proofs.Common.{inl, inr, sym, subst}
use Rattle.rational.specs.Places.{After, Upto}
use Rattle.frac128.specs.Cuts.{place}
use Rattle.time_sets.specs.Parts.{high_place}
use Rattle.rational.proofs.PlaceLemmas.{sides, not_both, before_through}
use Rattle.growing_sets.proofs.AddLemmas.{adds_alike}
use Rattle.growing_sets.proofs.LastingLemmas.{seen_from}
use Rattle.growing_sets.proofs.WindowLemmas.{on_good}
use Rattle.growing_sets.proofs.lasting.add_unseeing.Goals as goal

pub returns-then-is_never-clause-ok : goal.returns-then-is_never-clause-ok
returns-then-is_never-clause-ok c =
    on_good c.add.result c.add.ensures.ok
    (λ a. adds_alike a (λ t b h u a s. c.is_never.ensures.never c.if-is_never.true t u s)
    (λ t b h. subst (λ x. After (place x.from) t × Upto (place x.to) t) (sym c.bounds-bounds.ensures) b))

pub returns-clause-ok : goal.returns-clause-ok
returns-clause-ok c =
    let w = c.args.w.now in
    let start = place c.args.start.now in
    let past = place c.past_high.result in
    on_good c.add-2.result c.add-2.ensures.ok
    (λ a. adds_alike a
    (λ t b h u a s. not_both past t h.1 ((c.past_high.ensures t).1 (before_through start (high_place w.high w.high_in t) u a s.ends)))
    (λ t b h. (
      subst (λ x. After (place x.from) t) (sym c.bounds-bounds.ensures) b.0,
      elim (sides past t) [
        | inl k ↦ k
        | inr k ↦
            let u = seen_from w start t (c.is_never.ensures.room c.if-is_never.false t) ((c.past_high.ensures t).0 k) in
            absurd (h u.0 u.1 u.2)
      ],
    )))
