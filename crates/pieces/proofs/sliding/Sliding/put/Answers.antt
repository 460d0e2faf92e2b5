use Rattle.std.proofs.Common.{sym, ◌∙◌, subst}
use Rattle.std.proofs.lemmas.Bool.{false≢true}
use Rattle.std.proofs.lemmas.Result.{on_ok_weaker}
use Rattle.rational.specs.Places.{Before, Same}
use Rattle.rational.proofs.PlaceLemmas.{at_most_of_not_before, same_of_at_most}
use Rattle.frac128.specs.Cuts.{place}
use Rattle.pl_signal.specs.declared.joining.Side.{Side}
use Rattle.pieces.specs.Chains.{stop}
use Rattle.pieces.specs.Sliding.{HasTold}
use Rattle.pieces.specs.Steps.{AreSteps}
use Rattle.pieces.proofs.Ends.{same_place}
use Rattle.pieces.proofs.SlidingLemmas.{told_none, told_rest}
use Rattle.pieces.proofs.sliding.Sliding.put.Given.{Over}
use Rattle.pieces.proofs.sliding.Sliding.put.Goals.{After-len}
use Rattle.pieces.proofs.sliding.Sliding.put.Goals as goal

-- nothing was told yet
none_yet : (g : Over) (c : After-len g) (side : Side) → HasTold g.P.Shape side c.args.gap.now c.args.self.now c.args.self.now
none_yet g c side = told_none g.P.Shape side c.args.gap.now c.args.self.now c.len.ensures.normal
    (subst (AreSteps g.P.Shape side (stop c.args.self.now.out)) (sym c.requires.steps) tt)

pub returns-then-not-precedes-clause-told : goal.returns-then-not-precedes-clause-told
returns-then-not-precedes-clause-told g c side = none_yet g (goal.at.returns-then-not-precedes-clause-told g c).After-len side

pub returns-then-not-precedes-clause-ends : goal.returns-then-not-precedes-clause-ends
returns-then-not-precedes-clause-ends g c = same_of_at_most (stop c.args.self.now.out) (place c.args.until.now) c.requires.order
    (at_most_of_not_before (place c.args.until.now) (stop c.args.self.now.out)
    (λ b. false≢true (sym c.if-not-precedes.true ∙ c.precedes.ensures.1 (subst (λ s. Before s (place c.args.until.now)) (sym c.until.ensures.value) b))))

pub returns-clause-told : goal.returns-clause-told
returns-clause-told g c side =
    let none = c.requires.steps in
    let later = subst (λ s. Before s (place c.args.until.now)) c.until.ensures.value (c.precedes.ensures.0 c.if-not-precedes.false) in
    on_ok_weaker c.put.result (λ goes. told_rest g.P.Shape side c.args.gap.now c.args.self.now c.args.self.now
    (none_yet g (goal.at.returns-clause-told g c).After-len side)
    (record { out = c.put.new.self; steps = c.args.self.now.steps }) c.args.until.now none none later goes) c.put.ensures.ok

pub returns-clause-ends : goal.returns-clause-ends
returns-clause-ends g c = on_ok_weaker c.put.result
    (λ goes. subst (λ s. Same s (place c.args.until.now)) (sym goes.ends) (same_place (place c.args.until.now))) c.put.ensures.ok
