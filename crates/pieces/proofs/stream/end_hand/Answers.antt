use Rattle.std.proofs.Common.{subst, Some, None}
use Rattle.std.proofs.lemmas.Result.{on_err_weaker}
use Rattle.frac128.specs.Cuts.{place}
use Rattle.pieces.specs.Chains.{Chain}
use Rattle.pieces.specs.Hands.{Leaves}
use Rattle.pieces.specs.Meeting.{IsHeldFault}
use Rattle.pieces.proofs.CountsInPlay.{none_refused}
use Rattle.pieces.proofs.Hands.{leaves_ends, leaves_met}
use Rattle.pieces.proofs.stream.end_hand.Given.{Over}
use Rattle.pieces.proofs.stream.end_hand.Goals.{In-Some, In-None}
use Rattle.pieces.proofs.stream.end_hand.Goals as goal

-- there is a piece at hand
one : (g : Over) (c : In-Some g) (s : Chain g.row.P.Denot) → Leaves g.P.Shape s c.args.way.now c.args.hand.now c.args.trend c.args.met.now c.args.window.now
    → Leaves g.P.Shape s c.args.way.now (Some c.in-Some.shape) c.args.trend c.args.met.now c.args.window.now
one g c s known = subst (λ h. Leaves g.P.Shape s c.args.way.now h c.args.trend c.args.met.now c.args.window.now) c.in-Some.is known

-- or none
none : (g : Over) (c : In-None g) (s : Chain g.row.P.Denot) → Leaves g.P.Shape s c.args.way.now c.args.hand.now c.args.trend c.args.met.now c.args.window.now
    → Leaves g.P.Shape s c.args.way.now None c.args.trend c.args.met.now c.args.window.now
none g c s known = subst (λ h. Leaves g.P.Shape s c.args.way.now h c.args.trend c.args.met.now c.args.window.now) c.in-None.is known

pub end_piece-requires-clause-ends : goal.end_piece-requires-clause-ends
end_piece-requires-clause-ends g c =
    let (s, known) = c.requires.ends in
    (s, leaves_ends c.in-Some.shape (one g (goal.at.end_piece-requires-clause-ends g c).In-Some s known))

pub returns-in-Some-clause-met : goal.returns-in-Some-clause-met
returns-in-Some-clause-met g c s known =
    c.end_piece.ensures.met s (leaves_ends c.in-Some.shape (one g (goal.at.returns-in-Some-clause-met g c).In-Some s known))

pub returns-in-Some-clause-wide : goal.returns-in-Some-clause-wide
returns-in-Some-clause-wide g c s limit known below =
    c.end_piece.ensures.wide s limit (leaves_ends c.in-Some.shape (one g (goal.at.returns-in-Some-clause-wide g c).In-Some s known)) below

pub returns-in-Some-clause-held : goal.returns-in-Some-clause-held
returns-in-Some-clause-held g c s known narrow =
    c.end_piece.ensures.held s (leaves_ends c.in-Some.shape (one g (goal.at.returns-in-Some-clause-held g c).In-Some s known)) narrow

pub enter-requires-clause-met : goal.enter-requires-clause-met
enter-requires-clause-met g c =
    let (s, known) = c.requires.ends in
    let k = none g (goal.at.enter-requires-clause-met g c).In-None s known in
    (s, leaves_met (assumption g.met.P.Shape) k, k.ahead)

pub returns-in-None-clause-met : goal.returns-in-None-clause-met
returns-in-None-clause-met g c s known =
    let k = none g (goal.at.returns-in-None-clause-met g c).In-None s known in
    c.enter.ensures.met s (leaves_met (assumption g.met.P.Shape) k) k.ahead

pub returns-in-None-clause-wide : goal.returns-in-None-clause-wide
returns-in-None-clause-wide g c s limit known below =
    c.enter.ensures.wide s limit (leaves_met (assumption g.met.P.Shape) (none g (goal.at.returns-in-None-clause-wide g c).In-None s known)) below

pub returns-in-None-clause-held : goal.returns-in-None-clause-held
returns-in-None-clause-held g c s known narrow = on_err_weaker c.enter.result
    (λ nothing. none_refused c.enter.new.fault (IsHeldFault g.P.Shape s c.args.way.now (place c.args.met.now).at) nothing) (c.enter.ensures.narrow narrow)
