use Rattle.rational.specs.Extended.{value_at}
use Rattle.frac128.specs.Value.{value}
use Rattle.pieces.proofs.Bests.{favour_first, nw_same, nw_trans}
use Rattle.pieces.proofs.window.stays_above.Goals as goal

pub returns-in_default-favour : goal.returns-in_default-favour
returns-in_default-favour g c h t =
    let f = g.P.Shape.function c.args.level.now in
    let time = value c.args.time.now in
    nw_trans (nw_same c.args.side (c.in-Equal.ensures t time)) (favour_first c.args.side c.favour.result (value_at f time)
    (value_at (g.P.Shape.function c.args.shape.now) time) c.favour.ensures c.in_default-favour.not-Greater)
