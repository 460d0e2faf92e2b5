use Rattle.std.proofs.Common.{inl, inr, ap, ◌∙◌, subst}
use Rattle.std.proofs.lemmas.Option.{IfSome_then}
use Rattle.rational.proofs.Lists.{on_err_anyway}
use Rattle.rational.specs.Places.{Upto}
use Rattle.frac128.specs.Cuts.{place}
use Rattle.pieces.specs.Chains.{Chain, stop}
use Rattle.pieces.specs.Hands.{TurnsTo}
use Rattle.pieces.specs.Meeting.{Meets}
use Rattle.pieces.proofs.FollowedWindows.{turn_follows, turn_leaves, turn_meets}
use Rattle.pieces.proofs.Refusals.{held_below}
use Rattle.pieces.proofs.stream.Stream.turn.Given.{Over}
use Rattle.pieces.proofs.stream.Stream.turn.Goals.{In_ok-end_hand}
use Rattle.pieces.proofs.stream.Stream.turn.Goals as goal

-- what lies before it was met
meets : (g : Over) (c : In_ok-end_hand g) (s : Chain g.row.P.Denot) → TurnsTo g.P.Shape s c.args.self.now c.args.piece.now
    → Meets g.P.Shape s c.args.self.now.way (place c.args.self.now.met) c.args.piece.now c.end_hand.new.window
meets g c s t = turn_meets g.P.Shape s c.args.self.now c.args.piece.now t c.end_hand.new.window
    (c.in_ok-end_hand.ensures.met s (turn_leaves g.P.Shape s c.args.self.now c.args.piece.now t)) (c.in_ok-end_hand.ensures.entered s)

pub end_hand-requires-clause-ends : goal.end_hand-requires-clause-ends
end_hand-requires-clause-ends g c =
    let (s, t) = c.requires.next in
    (s, turn_leaves g.P.Shape s c.args.self.now c.args.piece.now t)

pub take-requires-clause-met : goal.take-requires-clause-met
take-requires-clause-met g c =
    let (s, t) = c.requires.next in
    (s, meets g (goal.at.take-requires-clause-met g c).In_ok-end_hand s t)

pub returns-clause-follows : goal.returns-clause-follows
returns-clause-follows g c s t = turn_follows g.P.Shape s c.args.self.now c.args.piece.now t c.take.new.window c.in_ok-self.field-0
    (c.in_ok-self.ensures.taken s (meets g (goal.at.returns-clause-follows g c).In_ok-end_hand s t))

pub returns-clause-from : goal.returns-clause-from
returns-clause-from g c = ap (λ o. o.from) c.take.ensures.out ∙ c.in_ok-end_hand.ensures.from

pub returns-clause-upto : goal.returns-clause-upto
returns-clause-upto g c = elim c.in_ok-end_hand.ensures.upto [
  | inl e ↦ inl (ap (λ o. stop o) c.take.ensures.out ∙ e)
  | inr n ↦ inr (λ t u. n t (subst (λ o. Upto (stop o) t) c.take.ensures.out u))
]

pub returns-in_err-end_hand-clause-wide : goal.returns-in_err-end_hand-clause-wide
returns-in_err-end_hand-clause-wide g c s limit t below = on_err_anyway c.from_residual.result
    (c.in_err-end_hand.ensures.wide s limit (turn_leaves g.P.Shape s c.args.self.now c.args.piece.now t) below)

pub returns-in_err-end_hand-clause-held : goal.returns-in_err-end_hand-clause-held
returns-in_err-end_hand-clause-held g c s t narrow = on_err_anyway c.from_residual.result
    (c.in_err-end_hand.ensures.held s (turn_leaves g.P.Shape s c.args.self.now c.args.piece.now t) narrow)

pub returns-in_err-self-clause-wide : goal.returns-in_err-self-clause-wide
returns-in_err-self-clause-wide g c s limit t below = on_err_anyway c.from_residual-in_err-self.result (IfSome_then c.take.new.fault
    (c.in_err-self.ensures.wide s (meets g (goal.at.returns-in_err-self-clause-wide g c).In_ok-end_hand s t))
    (held_below g.P.Shape s c.args.self.now.way (place c.args.self.now.met).at limit below))

pub returns-in_err-self-clause-held : goal.returns-in_err-self-clause-held
returns-in_err-self-clause-held g c s t narrow = on_err_anyway c.from_residual-in_err-self.result
    (c.in_err-self.ensures.wide s (meets g (goal.at.returns-in_err-self-clause-held g c).In_ok-end_hand s t))
