use Rattle.std.proofs.Common.{inl, inr, sym, subst}
use Rattle.rational.specs.Extended.{value_at}
use Rattle.frac128.specs.Value.{value}
use Rattle.frac128.specs.Cuts.{place}
use Rattle.pieces.specs.Chains.{Chain, stop}
use Rattle.pieces.specs.Hands.{FirstGives}
use Rattle.pieces.specs.Over.{IsMovedTo}
use Rattle.pieces.specs.Streaming.{IsAtSteps}
use Rattle.pieces.proofs.FollowedWindows.{at_moved, at_steps, at_within, best_counts, best_none, climbs_at}
use Rattle.pieces.proofs.stream.Stream.best_of_steps.Given.{Over}
use Rattle.pieces.proofs.stream.Stream.best_of_steps.Goals.{After-first_step-first}
use Rattle.pieces.proofs.stream.Stream.best_of_steps.Goals as goal

-- what the first step gives
gives : (g : Over) (c : After-first_step-first g) (s : Chain g.row.P.Denot) → IsAtSteps g.P.Shape s c.args.self.now (value c.args.to.now)
    → FirstGives g.P.Shape c.args.self.now.way.side (stop c.args.self.now.sliding.out) c.args.self.now.sliding.steps.items (value c.args.to.now)
    (value_at (g.P.Shape.function c.first_step-first.result) (value c.args.to.now))
gives g c s known = c.first_step-first.ensures.value (stop c.args.self.now.sliding.out)
    (at_steps g.P.Shape s (assumption g.met.P.Shape) c.args.self.now (value c.args.to.now) known) known.at

pub first_step-first-requires : goal.first_step-first-requires
first_step-first-requires g c =
    let (s, known) = c.requires.at in
    at_within g.P.Shape s (assumption g.met.P.Shape) c.args.self.now (value c.args.to.now) known

pub returns-in_default-clause-value : goal.returns-in_default-clause-value
returns-in_default-clause-value g c s known =
    let to = value c.args.to.now in
    best_none g.P.Shape s (assumption g.met.P.Shape) c.args.self.now to known c.requires.inside (value_at (g.P.Shape.function c.first_step-first.result) to)
    (gives g (goal.at.returns-in_default-clause-value g c).After-first_step-first s known) c.in_default.is

pub returns-in_default-clause-base : goal.returns-in_default-clause-base
returns-in_default-clause-base g c s known =
    at_moved g.P.Shape s (assumption g.met.P.Shape) c.args.self.now (value c.args.to.now) known c.first_step-first.result c.first_step-first.ensures.of

pub with_climb-requires : goal.with_climb-requires
with_climb-requires g c =
    let (s, known) = c.requires.at in
    let to = value c.args.to.now in
    let k = climbs_at g.P.Shape s (assumption g.met.P.Shape) c.args.self.now to known c.requires.inside (value_at (g.P.Shape.function c.first_step-first.result) to)
    (gives g (goal.at.with_climb-requires g c).After-first_step-first s known) c.in-Some.shape c.in-Some.is c.in-Greater.is in
    record { climbs = (s, k.0, k.1) }

pub returns-in-Greater-clause-value : goal.returns-in-Greater-clause-value
returns-in-Greater-clause-value g c s known =
    let to = value c.args.to.now in
    let k = climbs_at g.P.Shape s (assumption g.met.P.Shape) c.args.self.now to known c.requires.inside (value_at (g.P.Shape.function c.first_step-first.result) to)
    (gives g (goal.at.returns-in-Greater-clause-value g c).After-first_step-first s known) c.in-Some.shape c.in-Some.is c.in-Greater.is in
    c.with_climb.ensures.value s k.0 k.1 k.2

pub returns-in-Greater-clause-base : goal.returns-in-Greater-clause-base
returns-in-Greater-clause-base g c s known =
    let w = c.args.self.now in
    let to = value c.args.to.now in
    let k = climbs_at g.P.Shape s (assumption g.met.P.Shape) w to known c.requires.inside (value_at (g.P.Shape.function c.first_step-first.result) to)
    (gives g (goal.at.returns-in-Greater-clause-base g c).After-first_step-first s known) c.in-Some.shape c.in-Some.is c.in-Greater.is in
    elim c.with_climb.ensures.base [
      | inl e ↦ subst (λ r. IsMovedTo g.P.Shape s w.way.over (place w.way.to) r) (sym e)
          (at_moved g.P.Shape s (assumption g.met.P.Shape) w to known c.first_step-first.result c.first_step-first.ensures.of)
      | inr h ↦ (λ m. (c.in-Some.shape, k.1.is.has, (h m).0, inl (h m).1))
    ]

pub returns-in_default-trend-clause-value : goal.returns-in_default-trend-clause-value
returns-in_default-trend-clause-value g c s known =
    let to = value c.args.to.now in
    best_counts g.P.Shape s (assumption g.met.P.Shape) c.args.self.now to known c.requires.inside (value_at (g.P.Shape.function c.first_step-first.result) to)
    (gives g (goal.at.returns-in_default-trend-clause-value g c).After-first_step-first s known) c.in-Some.shape c.in-Some.is
    c.in_default-trend.not-Greater

pub returns-in_default-trend-clause-base : goal.returns-in_default-trend-clause-base
returns-in_default-trend-clause-base g c s known =
    at_moved g.P.Shape s (assumption g.met.P.Shape) c.args.self.now (value c.args.to.now) known c.first_step-first.result c.first_step-first.ensures.of
