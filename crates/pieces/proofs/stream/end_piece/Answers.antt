use Rattle.std.proofs.lemmas.Result.{on_err_weaker}
use Rattle.std.proofs.Common.{subst}
use Rattle.std.specs.declared.cmp.Ordering.TheVariants.{Greater}
use Rattle.rational.proofs.Lists.{on_err_anyway}
use Rattle.pieces.specs.Causes.{IsCauseBelow}
use Rattle.pieces.specs.Chains.{Chain, end}
use Rattle.pieces.specs.Hands.{EndsHand}
use Rattle.pieces.specs.Meeting.{IsHeldFault}
use Rattle.pieces.proofs.CountsInPlay.{none_refused}
use Rattle.pieces.proofs.Hands.{ends_met, ends_rises}
use Rattle.pieces.proofs.PieceEnds.{piece_first, piece_last}
use Rattle.pieces.proofs.Ones.{no_worse_climbed}
use Rattle.pieces.proofs.stream.end_piece.Given.{Over}
use Rattle.pieces.proofs.stream.end_piece.Goals.{In-Greater}
use Rattle.pieces.proofs.stream.end_piece.Goals as goal

-- the piece is climbed
climbed : (g : Over) (c : In-Greater g) (s : Chain g.row.P.Denot) → EndsHand g.P.Shape s c.args.way.now c.args.piece.now c.args.trend c.args.window.now
    → EndsHand g.P.Shape s c.args.way.now c.args.piece.now Greater c.args.window.now
climbed g c s known = subst (λ t. EndsHand g.P.Shape s c.args.way.now c.args.piece.now t c.args.window.now) c.in-Greater.is known

pub leave-requires : goal.leave-requires
leave-requires g c =
    let (s, known) = c.requires.ends in
    let k = climbed g (goal.at.leave-requires g c).In-Greater s known in
    record { rises = (s, k.hand.begin, ends_rises k); one = c.is_one.ensures.is c.if-is_one.true }

pub returns-then-is_one-clause-met : goal.returns-then-is_one-clause-met
returns-then-is_one-clause-met g c s known =
    let k = climbed g (goal.at.returns-then-is_one-clause-met g c).In-Greater s known in
    c.leave.ensures.met s k.hand.begin (ends_rises k)

pub returns-then-is_one-clause-wide : goal.returns-then-is_one-clause-wide
returns-then-is_one-clause-wide g c s limit known below =
    on_err_anyway c.leave.result (none_refused c.args.fault.now (IsCauseBelow g.P.Shape s c.args.way.now.over limit) c.requires.none)

pub returns-then-is_one-clause-held : goal.returns-then-is_one-clause-held
returns-then-is_one-clause-held g c s known narrow = on_err_anyway c.leave.result
    (none_refused c.args.fault.now (IsHeldFault g.P.Shape s c.args.way.now (end c.args.piece.now).at) c.requires.none)

pub left-until-requires : goal.left-until-requires
left-until-requires g c =
    let (s, known) = c.requires.ends in
    let k = climbed g (goal.at.left-until-requires g c).In-Greater s known in
    record {
      from = piece_first k.on.can k.hand.hand.is;
      to = piece_last k.on.can k.hand.hand.is;
      small = k.on.can.small;
      to_within = k.on.within;
    }

pub rising-requires-clause-met : goal.rising-requires-clause-met
rising-requires-clause-met g c =
    let (s, known) = c.requires.ends in
    let k = climbed g (goal.at.rising-requires-clause-met g c).In-Greater s known in
    (s, k.hand.begin, ends_rises k)

pub rising-requires-clause-trend : goal.rising-requires-clause-trend
rising-requires-clause-trend g c =
    let (s, known) = c.requires.ends in
    let way = c.args.way.now in
    no_worse_climbed way.over way.side (g.P.Shape.function c.args.piece.now.shape)
    (climbed g (goal.at.rising-requires-clause-trend g c).In-Greater s known).hand.rises (c.is_one.ensures.not c.if-is_one.false)

pub returns-else-is_one-clause-met : goal.returns-else-is_one-clause-met
returns-else-is_one-clause-met g c s known =
    let k = climbed g (goal.at.returns-else-is_one-clause-met g c).In-Greater s known in
    c.rising.ensures.met s k.hand.begin (ends_rises k)

pub returns-else-is_one-clause-wide : goal.returns-else-is_one-clause-wide
returns-else-is_one-clause-wide g c s limit known below =
    let k = climbed g (goal.at.returns-else-is_one-clause-wide g c).In-Greater s known in
    c.rising.ensures.wide s k.hand.begin limit (ends_rises k) below

pub returns-else-is_one-clause-held : goal.returns-else-is_one-clause-held
returns-else-is_one-clause-held g c s known narrow =
    let k = climbed g (goal.at.returns-else-is_one-clause-held g c).In-Greater s known in
    c.rising.ensures.held s k.hand.begin (ends_rises k) narrow

pub enter-requires-clause-met : goal.enter-requires-clause-met
enter-requires-clause-met g c =
    let (s, known) = c.requires.ends in
    (s, ends_met c.args.trend c.in_default.not-Greater known, known.ahead)

pub returns-in_default-clause-met : goal.returns-in_default-clause-met
returns-in_default-clause-met g c s known = c.enter.ensures.met s (ends_met c.args.trend c.in_default.not-Greater known) known.ahead

pub returns-in_default-clause-wide : goal.returns-in_default-clause-wide
returns-in_default-clause-wide g c s limit known below = c.enter.ensures.wide s limit (ends_met c.args.trend c.in_default.not-Greater known) below

pub returns-in_default-clause-held : goal.returns-in_default-clause-held
returns-in_default-clause-held g c s known narrow = on_err_weaker c.enter.result
    (λ none. none_refused c.enter.new.fault (IsHeldFault g.P.Shape s c.args.way.now (end c.args.piece.now).at) none) (c.enter.ensures.narrow narrow)
