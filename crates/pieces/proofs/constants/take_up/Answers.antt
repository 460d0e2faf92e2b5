use Rattle.std.proofs.Common.{◌≡◌, inl, inr, refl, sym, subst, ap, ◌∙◌, None}
use Rattle.std.proofs.lemmas.Bool.{false≢true}
use Rattle.std.proofs.lemmas.Result.{on_ok_weaker}
use Rattle.rational.specs.Places.{Before, Upto}
use Rattle.frac128.specs.Cuts.{place}
use Rattle.pieces.specs.declared.steps.Step.{Step}
use Rattle.pieces.specs.Chains.{Chain, stop}
use Rattle.pieces.specs.ConstantsMet.{HasReachedPast, TakesUp}
use Rattle.pieces.specs.Sliding.{last_end}
use Rattle.pieces.specs.Steps.{steps_end}
use Rattle.pieces.proofs.BestEnd.{on_ok_two}
use Rattle.pieces.proofs.ConstantLemmas.{all_constant}
use Rattle.pieces.proofs.ConstantsReached.{fits_there, level_there, steady_there}
use Rattle.pieces.proofs.ConstantsTaken.{taken_left, taken_pushed}
use Rattle.pieces.proofs.Shifts.{high_from, high_to, room}
use Rattle.pieces.proofs.constants.take_up.Given.{Over}
use Rattle.pieces.proofs.constants.take_up.Goals.{After-precedes}
use Rattle.pieces.proofs.constants.take_up.Goals as goal

-- where the constants end that are left
ends : (g : Over) (c : After-precedes g) → place c.end_of.result.now ≡ last_end c.reach_past.new.window
ends g c = c.end_of.ensures ∙ ap (λ b. steps_end b c.reach_past.new.window.steps.items) c.until-at.ensures.value

past : (g : Over) (c : After-precedes g) (s : Chain g.row.P.Denot)
    → TakesUp g.P.Shape s c.args.way.now (place c.args.met.now) c.args.piece.now (place c.args.until.now) c.args.window.now
    → HasReachedPast g.P.Shape s c.args.way.now (place c.args.met.now) c.reach_past.new.window
past g c s known = c.in_ok-reach_past.ensures.all s known.past

pub reach_past-requires-clause-all : goal.reach_past-requires-clause-all
reach_past-requires-clause-all g c =
    let (s, known) = c.requires.next in
    (s, known.past)

pub returns-then-not-precedes-clause-taken : goal.returns-then-not-precedes-clause-taken
returns-then-not-precedes-clause-taken g c s known =
    let k = (goal.at.returns-then-not-precedes-clause-taken g c).After-precedes in
    taken_left g.P.Shape (assumption g.met.P.Shape) s c.args.way.now (place c.args.met.now) (place c.args.until.now) c.args.piece.now c.args.window.now
    c.reach_past.new.window known (past g k s known) c.in_ok-reach_past.ensures.left
    (λ b. false≢true (sym c.if-not-precedes.true ∙ c.precedes.ensures.1 (subst (λ x. Before x (place c.args.until.now)) (sym (ends g k)) b)))

pub at_high-level-requires : goal.at_high-level-requires
at_high-level-requires g c =
    let (s, known) = c.requires.next in
    record {
      small = known.past.has.can.small;
      room = room (g.P.Shape.base c.args.piece.now.shape) c.args.way.now.over.high (known.past.has.can.near c.args.piece.now.shape known.piece.has)
          (high_from c.args.way.now.over known.past.has.can.small) (high_to c.args.way.now.over known.past.has.can.small);
    }

pub push-requires-clause-constant : goal.push-requires-clause-constant
push-requires-clause-constant g c =
    let (s, known) = c.requires.next in
    let has = c.in_ok-reach_past.ensures.all s known.past in
    all_constant g.P.Shape (assumption g.met.P.Shape) s c.args.way.now known.past.has.can.rising (place c.args.met.now) c.reach_past.new.window has.has.all

pub push-requires-clause-steady : goal.push-requires-clause-steady
push-requires-clause-steady g c =
    let (s, known) = c.requires.next in
    steady_there g.P.Shape s c.args.way.now (place c.args.met.now) c.args.piece.now known.past.has.can known.piece known.steady c.at_high-level.result
    c.at_high-level.ensures.value

pub push-requires-clause-level : goal.push-requires-clause-level
push-requires-clause-level g c =
    let (s, known) = c.requires.next in
    level_there g.P.Shape s c.args.way.now (place c.args.met.now) c.args.piece.now known.past.has.can known.piece known.steady c.at_high-level.result
    c.at_high-level.ensures.value

pub returns-clause-taken : goal.returns-clause-taken
returns-clause-taken g c s known =
    let k = (goal.at.returns-clause-taken g c).After-precedes in
    let p = c.args.piece.now in
    let l : Step g.row.P.Denot = record { until = c.args.until.now; shape = c.at_high-level.result; other = None } in
    on_ok_two c.push.result (λ settled out. taken_pushed g.P.Shape (assumption g.met.P.Shape) s c.args.way.now (place c.args.met.now) (place c.args.until.now)
    p c.args.window.now c.reach_past.new.window known (past g k s known) l c.push.new.window
    (fits_there g.P.Shape s c.args.way.now (place c.args.met.now) p known.past.has.can known.piece known.steady c.at_high-level.result
    c.at_high-level.ensures.value c.args.until.now known.left c.at_high-level.ensures.base) refl
    (subst (λ x. Before x (place c.args.until.now)) (ends g k) (c.precedes.ensures.0 c.if-not-precedes.false)) out settled)
    c.push.ensures.settled c.push.ensures.out

pub returns-clause-from : goal.returns-clause-from
returns-clause-from g c = on_ok_weaker c.push.result (λ out. ap (λ o. o.from) out ∙ c.in_ok-reach_past.ensures.from) c.push.ensures.out

pub returns-clause-upto : goal.returns-clause-upto
returns-clause-upto g c = on_ok_weaker c.push.result (λ out. elim c.in_ok-reach_past.ensures.upto [
  | inl e ↦ inl (ap (λ o. stop o) out ∙ e)
  | inr n ↦ inr (λ t u. n t (subst (λ o. Upto (stop o) t) out u))
]) c.push.ensures.out
