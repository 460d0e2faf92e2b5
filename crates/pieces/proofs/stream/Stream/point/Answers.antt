use Rattle.std.proofs.Common.{inl, inr, sym, subst}
use Rattle.rational.specs.Extended.{value_at}
use Rattle.rational.proofs.AffineLemmas.{same_reflᵉ}
use Rattle.frac128.specs.Value.{value}
use Rattle.frac128.specs.Cuts.{place}
use Rattle.pieces.specs.Over.{IsMovedTo}
use Rattle.pieces.specs.Streaming.{IsLastSeen, IsNextSeen}
use Rattle.pieces.proofs.Bests.{better_alike}
use Rattle.pieces.proofs.FollowedConstants.{at_within_limits}
use Rattle.pieces.proofs.FollowedWindows.{best_all, best_blind}
use Rattle.pieces.proofs.Hands.{last_best}
use Rattle.pieces.proofs.OverWindow.{sees_nothing}
use Rattle.pieces.proofs.Shifts.{high_from, high_to, room}
use Rattle.pieces.proofs.stream.Stream.point.Goals as goal

pub best_met-best-requires : goal.best_met-best-requires
best_met-best-requires g c =
    let (s, known, seen) = c.requires.seen in
    record { at = (s, known); inside = c.requires.inside }

pub returns-in_default-clause-value : goal.returns-in_default-clause-value
returns-in_default-clause-value g c s known seen =
    let w = c.args.self.now in
    let to = value c.args.to.now in
    best_all g.P.Shape s (assumption g.met.P.Shape) known.follows.can.rising w to (value_at (g.P.Shape.function c.best_met-best.result) to)
    (subst (λ o. IsNextSeen g.P.Shape s w to o) c.in_default.is seen) (c.best_met-best.ensures.value s known)

pub returns-in_default-clause-base : goal.returns-in_default-clause-base
returns-in_default-clause-base g c s known seen = c.best_met-best.ensures.base s known

pub is_empty-requires : goal.is_empty-requires
is_empty-requires g c =
    let (s, known, seen) = c.requires.seen in
    known.follows.can.small.order

pub returns-then-is_empty-clause-value : goal.returns-then-is_empty-clause-value
returns-then-is_empty-clause-value g c s known seen =
    let w = c.args.self.now in
    let to = value c.args.to.now in
    best_blind g.P.Shape s (assumption g.met.P.Shape) known.follows.can.rising w to (value_at (g.P.Shape.function c.best_met-best.result) to)
    (sees_nothing w.way.over (c.is_empty.ensures.empty c.if-is_empty.true)) (c.best_met-best.ensures.value s known)

pub returns-then-is_empty-clause-base : goal.returns-then-is_empty-clause-base
returns-then-is_empty-clause-base g c s known seen = c.best_met-best.ensures.base s known

pub at_high-requires : goal.at_high-requires
at_high-requires g c =
    let (s, known, seen) = c.requires.seen in
    let over = c.args.self.now.way.over in
    let p = c.in-Some.shape in
    let last : IsLastSeen g.P.Shape s c.args.self.now (value c.args.to.now) p =
    subst (λ o. IsNextSeen g.P.Shape s c.args.self.now (value c.args.to.now) o) c.in-Some.is seen in
    record {
      small = known.follows.can.small;
      room = room (g.P.Shape.base p) over.high (known.follows.can.near p last.has) (high_from over known.follows.can.small)
          (high_to over known.follows.can.small);
    }

pub better_at-requires : goal.better_at-requires
better_at-requires g c =
    let (s, known, seen) = c.requires.seen in
    at_within_limits g.P.Shape s c.args.self.now (assumption g.met.P.Shape) (value c.args.to.now) known

pub returns-clause-value : goal.returns-clause-value
returns-clause-value g c s known seen =
    let w = c.args.self.now in
    let to = value c.args.to.now in
    let p = c.in-Some.shape in
    let last : IsLastSeen g.P.Shape s w to p = subst (λ o. IsNextSeen g.P.Shape s w to o) c.in-Some.is seen in
    let v = value_at (g.P.Shape.function c.best_met-best.result) to in
    let r = value_at (g.P.Shape.function c.better_at.result) to in
    last_best g.P.Shape (assumption g.met.P.Shape) s w.way known.follows.can.rising (c.is_empty.ensures.not c.if-is_empty.false) (place w.met) to p v r
    last.here last.inside last.worth (c.best_met-best.ensures.value s known)
    (better_alike (same_reflᵉ v) (c.at_high.ensures.value to) (same_reflᵉ r) c.better_at.ensures.value)

pub returns-clause-base : goal.returns-clause-base
returns-clause-base g c s known seen =
    let w = c.args.self.now in
    let to = value c.args.to.now in
    let p = c.in-Some.shape in
    let last : IsLastSeen g.P.Shape s w to p = subst (λ o. IsNextSeen g.P.Shape s w to o) c.in-Some.is seen in
    elim c.better_at.ensures.one [
      | inl e ↦ subst (λ r. IsMovedTo g.P.Shape s w.way.over (place w.way.to) r) (sym e) (c.best_met-best.ensures.base s known)
      | inr e ↦ subst (λ r. IsMovedTo g.P.Shape s w.way.over (place w.way.to) r) (sym e)
          (λ m. let b = c.at_high.ensures.base m in (p, last.has, b.0, inl b.1))
    ]
