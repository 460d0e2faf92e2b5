use Rattle.std.proofs.Common.{sym, subst}
use Rattle.std.proofs.Common.{◌≤◌, ◌^◌}
use Rattle.rational.specs.Time.{Rational}
use Rattle.time_sets.specs.Bounds.{reach_of}
use Rattle.std.specs.Prelude.{◌↔◌, unsigned_abs, IfSome}
use Rattle.rational.specs.Places.{Upto, Before}
use Rattle.frac128.specs.Cuts.{place}
use Rattle.growing_sets.specs.Windows.{SeesPart}
use Rattle.time_sets.specs.Parts.{low_place}
use Rattle.growing_sets.proofs.AddLemmas.{adds_none, adds_alike}
use Rattle.growing_sets.proofs.WindowLemmas.{sees_part, part_seen, on_good, near_fits}
use Rattle.growing_sets.proofs.seeing.add_seeing.Goals as goal

pub returns-then-is_never-clause-ok : goal.returns-then-is_never-clause-ok
returns-then-is_never-clause-ok c =
    adds_none (SeesPart c.args.w.now c.args.part.now) c.requires
    (λ t b s. c.is_never.ensures.never c.if-is_never.true t s.0 s.2)

pub returns-in-Some-clause-ok : goal.returns-in-Some-clause-ok
returns-in-Some-clause-ok c =
    let w = c.args.w.now in
    let part = c.args.part.now in
    let near : unsigned_abs c.in-Some.low ≤ 2 ^ 32 = subst (λ l. reach_of l ≤ 2 ^ 32) c.in-Some.is w.near in
    let low : (t : Rational) → Upto (place c.before_low.result) t ↔ Before (low_place c.in-Some.low w.low_in t) (place part.to) =
    subst (λ k. (t : Rational) → Upto (place c.before_low.result) t ↔ Before (low_place k w.low_in t) (place part.to)) (near_fits c.in-Some.low near)
    c.before_low.ensures in
    on_good c.add.result c.add.ensures.ok
    (λ a. adds_alike a
    (λ t b h. sees_part w part t (c.is_never.ensures.room c.if-is_never.false t) ((c.past_high-from.ensures t).0 h.0)
    (subst (λ l. IfSome l (λ k. Before (low_place k w.low_in t) (place part.to))) (sym c.in-Some.is) ((low t).0 h.1)))
    (λ t b s. let x = part_seen w part t s in (
      (c.past_high-from.ensures t).1 x.0,
      (low t).1 (subst (λ l. IfSome l (λ k. Before (low_place k w.low_in t) (place part.to))) c.in-Some.is x.1),
    )))

pub returns-in-None-clause-ok : goal.returns-in-None-clause-ok
returns-in-None-clause-ok c =
    let w = c.args.w.now in
    let part = c.args.part.now in
    on_good c.add-in-None.result c.add-in-None.ensures.ok
    (λ a. adds_alike a
    (λ t b h. sees_part w part t (c.is_never.ensures.room c.if-is_never.false t) ((c.past_high-from.ensures t).0 h.0)
    (subst (λ l. IfSome l (λ k. Before (low_place k w.low_in t) (place part.to))) (sym c.in-None.is) tt))
    (λ t b s. (
      (c.past_high-from.ensures t).1 (part_seen w part t s).0,
      subst (λ x. Upto (place x.to) t) (sym c.bounds-bounds.ensures) b.1,
    )))
