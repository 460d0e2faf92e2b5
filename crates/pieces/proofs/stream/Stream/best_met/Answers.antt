use Rattle.frac128.specs.Value.{value}
use Rattle.rational.specs.Extended.{value_at}
use Rattle.pieces.specs.Chains.{stop}
use Rattle.pieces.proofs.FollowedConstants.{at_constant_steps, at_within_limits, best_constant, moved_constant, steps_of_at}
use Rattle.pieces.proofs.stream.Stream.best_met.Goals as goal

pub first_step-requires : goal.first_step-requires
first_step-requires g c =
    let (s, known) = c.requires.at in
    at_within_limits g.P.Shape s c.args.self.now (assumption g.met.P.Shape) (value c.args.to.now) known

pub returns-in-Some-clause-value : goal.returns-in-Some-clause-value
returns-in-Some-clause-value g c s known =
    let w = c.args.self.now in
    let to = value c.args.to.now in
    best_constant g.P.Shape (assumption g.met.P.Shape) s w _ to known c.in-Some.is c.requires.inside (value_at (g.P.Shape.function c.first_step.result) to)
    (c.first_step.ensures.value (stop w.sliding.out) (at_constant_steps g.P.Shape (assumption g.met.P.Shape) s w _ to known c.in-Some.is) known.at)

pub returns-in-Some-clause-base : goal.returns-in-Some-clause-base
returns-in-Some-clause-base g c s known =
    moved_constant g.P.Shape (assumption g.met.P.Shape) s c.args.self.now _ (value c.args.to.now) known c.in-Some.is c.first_step.result c.first_step.ensures.of

pub best_of_steps-requires-clause-at : goal.best_of_steps-requires-clause-at
best_of_steps-requires-clause-at g c =
    let (s, known) = c.requires.at in
    (s, steps_of_at g.P.Shape s c.args.self.now (value c.args.to.now) c.in_default.is known)

pub returns-clause-value : goal.returns-clause-value
returns-clause-value g c s known =
    c.best_of_steps.ensures.value s (steps_of_at g.P.Shape s c.args.self.now (value c.args.to.now) c.in_default.is known)

pub returns-clause-base : goal.returns-clause-base
returns-clause-base g c s known =
    c.best_of_steps.ensures.base s (steps_of_at g.P.Shape s c.args.self.now (value c.args.to.now) c.in_default.is known)
