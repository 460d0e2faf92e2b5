use Rattle.std.proofs.lemmas.Option.{IfSome_then}
use Rattle.std.proofs.lemmas.Result.{on_err_weaker, on_ok_weaker}
use Rattle.rational.proofs.Lists.{on_err_anyway}
use Rattle.rational.proofs.Order.{le_refl}
use Rattle.rational.proofs.PlaceLemmas.{le_of_at_most}
use Rattle.frac128.specs.Cuts.{place}
use Rattle.pieces.specs.Causes.{IsCauseBelow, IsHeldCause}
use Rattle.pieces.specs.Chains.{Chain, stop}
use Rattle.pieces.specs.Hands.{TurnsTo}
use Rattle.pieces.specs.Meeting.{IsHeldFault}
use Rattle.pieces.specs.Streaming.{ComesNext, FollowsSteps}
use Rattle.pieces.proofs.CountsInPlay.{none_refused}
use Rattle.pieces.proofs.FollowedWindows.{follows_blind, follows_further, follows_longer, follows_turns, follows_within, next_below, next_narrow, told_below}
use Rattle.pieces.proofs.OverWindow.{empty_or_some, sees_nothing}
use Rattle.pieces.proofs.Refusals.{held_first, held_never, none_of_refused}
use Rattle.pieces.proofs.stream.Stream.meet_steps.Given.{Over}
use Rattle.pieces.proofs.stream.Stream.meet_steps.Goals.{In_default}
use Rattle.pieces.proofs.stream.Stream.meet_steps.Goals as goal

-- another piece comes
turns : (g : Over) (c : In_default g) (s : Chain g.row.P.Denot) → FollowsSteps g.P.Shape s c.args.self.now
    → ComesNext g.P.Shape s c.args.self.now c.args.piece.now → TurnsTo g.P.Shape s c.args.self.now c.args.piece.now
turns g c s known next = follows_turns g.P.Shape s c.args.self.now c.args.piece.now known (c.is_empty.ensures.not c.if-is_empty.false) next
    (c.continued.ensures.none c.in_default.is)

pub is_empty-requires : goal.is_empty-requires
is_empty-requires g c =
    let (s, known, next) = c.requires.next in
    known.can.small.order

pub returns-then-is_empty-clause-follows : goal.returns-then-is_empty-clause-follows
returns-then-is_empty-clause-follows g c s known next =
    let empty = c.is_empty.ensures.empty c.if-is_empty.true in
    follows_blind g.P.Shape s c.args.self.now c.args.piece.now (assumption g.met.P.Shape) known next (sees_nothing c.args.self.now.way.over empty)
    (empty_or_some c.args.self.now.way.over empty)

pub continued-requires : goal.continued-requires
continued-requires g c =
    let (s, known, next) = c.requires.next in
    follows_within g.P.Shape s c.args.self.now known

pub lengthen-requires : goal.lengthen-requires
lengthen-requires g c =
    let (s, known, next) = c.requires.next in
    let (e, goes) = c.in-Some.ensures.some in
    record {
      further = (
        s,
        follows_further g.P.Shape s c.args.self.now c.args.piece.now c.in-Some.shape.now e known (c.is_empty.ensures.not c.if-is_empty.false) next goes,
      );
    }

pub returns-clause-follows : goal.returns-clause-follows
returns-clause-follows g c s known next =
    let some = c.is_empty.ensures.not c.if-is_empty.false in
    let (e, goes) = c.in-Some.ensures.some in
    follows_longer g.P.Shape s c.args.self.now c.args.piece.now c.in-Some.shape.now e known some next c.lengthen.new.window
    (c.in_ok-lengthen.ensures.taken s (follows_further g.P.Shape s c.args.self.now c.args.piece.now c.in-Some.shape.now e known some next goes))

pub turn-requires-clause-next : goal.turn-requires-clause-next
turn-requires-clause-next g c =
    let (s, known, next) = c.requires.next in
    (s, turns g (goal.at.turn-requires-clause-next g c).In_default s known next)

pub returns-in_default-clause-follows : goal.returns-in_default-clause-follows
returns-in_default-clause-follows g c s known next =
    c.turn.ensures.follows s (turns g (goal.at.returns-in_default-clause-follows g c).In_default s known next)

pub returns-in_default-clause-upto : goal.returns-in_default-clause-upto
returns-in_default-clause-upto g c s limit known next most comes = on_ok_weaker c.turn.result
    (λ told. told_below c.args.self.now.way (place c.args.self.now.met) c.args.self.now.sliding c.turn.new.self.sliding limit told most comes)
    c.turn.ensures.upto

pub returns-in_default-clause-wide : goal.returns-in_default-clause-wide
returns-in_default-clause-wide g c s limit known next after inside comes = c.turn.ensures.wide s limit
    (turns g (goal.at.returns-in_default-clause-wide g c).In_default s known next)
    (next_below g.P.Shape s c.args.self.now c.args.piece.now limit after inside comes)

pub returns-in_default-clause-first : goal.returns-in_default-clause-first
returns-in_default-clause-first g c s known next some most comes =
    let w = c.args.self.now in
    on_err_weaker c.turn.result (λ held. IfSome_then c.turn.new.fault held (held_first g.P.Shape s w.way (place w.met).at some comes))
    (c.turn.ensures.held s (turns g (goal.at.returns-in_default-clause-first g c).In_default s known next)
    (next_narrow g.P.Shape s w c.args.piece.now s.from.at known (le_refl s.from.at) comes))

pub returns-in_default-clause-one : goal.returns-in_default-clause-one
returns-in_default-clause-one g c s known next one =
    let w = c.args.self.now in
    on_err_weaker c.turn.result (λ held. none_of_refused c.turn.new.fault (IsHeldFault g.P.Shape s w.way (place w.met).at) held
    (held_never g.P.Shape s w.way (place w.met).at known.can.small one (le_of_at_most s.from (place w.met) known.begins)
    (le_of_at_most (place w.met) (stop s) known.ends) next.comes))
    (c.turn.ensures.held s (turns g (goal.at.returns-in_default-clause-one g c).In_default s known next)
    (next_narrow g.P.Shape s w c.args.piece.now (stop s).at known one next.comes))

pub returns-in_err-lengthen-clause-wide : goal.returns-in_err-lengthen-clause-wide
returns-in_err-lengthen-clause-wide g c s limit known next after inside comes = on_err_anyway c.from_residual.result
    (none_refused c.args.fault.now (IsCauseBelow g.P.Shape s c.args.self.now.way.over limit) c.requires.none)

pub returns-in_err-lengthen-clause-first : goal.returns-in_err-lengthen-clause-first
returns-in_err-lengthen-clause-first g c s known next some most comes = on_err_anyway c.from_residual.result
    (none_refused c.args.fault.now (IsHeldCause g.P.Shape s c.args.self.now.way.over (place c.args.self.now.met).at) c.requires.none)
