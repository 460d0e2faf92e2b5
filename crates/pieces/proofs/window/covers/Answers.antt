use Rattle.rational.specs.Extended.{value_at}
use Rattle.frac128.specs.Value.{value}
use Rattle.pieces.proofs.Bests.{favour_first, nw_same, nw_trans}
use Rattle.pieces.proofs.Shifts.{high_from, high_to, room}
use Rattle.pieces.proofs.window.covers.Goals as goal

pub at_high-requires-clause-room : goal.at_high-requires-clause-room
at_high-requires-clause-room g c = room (g.P.Shape.base c.args.shape.now) c.args.way.now.over.high c.requires.near
    (high_from c.args.way.now.over c.requires.small) (high_to c.args.way.now.over c.requires.small)

pub returns-in_default-favour-clause-above : goal.returns-in_default-favour-clause-above
returns-in_default-favour-clause-above g c h =
    let here = value c.args.next.now.time in
    nw_trans (favour_first c.args.way.now.side c.favour.result (value_at (g.P.Shape.function c.args.step.now.shape) here)
    (value_at (g.P.Shape.function c.at_high.result) here) c.favour.ensures c.in_default-favour.not-Greater)
    (nw_same c.args.way.now.side (c.at_high.ensures.value here))
