use Rattle.std.proofs.Common.{◌^◌, refl, sym, subst, length}
use Rattle.rational.specs.Rational.{IsWithin}
use Rattle.pieces.specs.Constants.{GivesFirst}
use Rattle.pieces.specs.Steps.{AreSteps}
use Rattle.frac128.specs.Cuts.{place}
use Rattle.pieces.proofs.ConstantLemmas.{all_constant, told_in_limits}
use Rattle.pieces.proofs.FollowedConstants.{follows_made, has_constants}
use Rattle.pieces.proofs.stream.Stream.make_steps.Goals as goal

pub steps_of-requires-clause-within : goal.steps_of-requires-clause-within
steps_of-requires-clause-within g c =
    let (s, range, is, known, behind) = c.requires.constants in
    subst (λ x. IsWithin (2 ^ 34) x.at) (sym c.until-at.ensures.value) (told_in_limits g.P.Shape s c.args.self.now.way (place c.args.self.now.met)
    c.args.self.now.sliding known.can (has_constants g.P.Shape (assumption g.met.P.Shape) s c.args.self.now range known is).all)

pub steps_of-requires-clause-steps : goal.steps_of-requires-clause-steps
steps_of-requires-clause-steps g c =
    let (s, range, is, known, behind) = c.requires.constants in
    subst (λ b. AreSteps g.P.Shape c.args.self.now.way.side b c.args.self.now.sliding.steps.items) (sym c.until-at.ensures.value)
    (has_constants g.P.Shape (assumption g.met.P.Shape) s c.args.self.now range known is).all.steps

pub steps_of-requires-clause-constant : goal.steps_of-requires-clause-constant
steps_of-requires-clause-constant g c =
    let (s, range, is, known, behind) = c.requires.constants in
    let w = c.args.self.now in
    all_constant g.P.Shape (assumption g.met.P.Shape) s w.way known.can.rising (place w.met) w.sliding
    (has_constants g.P.Shape (assumption g.met.P.Shape) s w range known is).all

pub returns-clause-steps : goal.returns-clause-steps
returns-clause-steps g c s range is known behind =
    let w = c.args.self.now in
    let steps = c.in_ok-self.field-0 in
    follows_made g.P.Shape (assumption g.met.P.Shape) s w range known is behind (record { out = w.sliding.out; steps = steps }) refl
    (subst (λ b. GivesFirst g.P.Shape w.way.side b w.sliding.steps.items (length w.sliding.steps.items) steps.items) c.until-at.ensures.value
    c.in_ok-self.ensures)
