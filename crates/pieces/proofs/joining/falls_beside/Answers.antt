use Rattle.pieces.proofs.Trends.{falls_of, rises_of}
use Rattle.pieces.proofs.joining.falls_beside.Goals as goal

pub returns-in_default-trend-clause-falls : goal.returns-in_default-trend-clause-falls
returns-in_default-trend-clause-falls g c h =
    falls_of c.args.side c.trend.result (g.P.Shape.function c.args.p.now) c.trend.ensures c.in_default.not-Greater

pub returns-in_default-trend-clause-rises : goal.returns-in_default-trend-clause-rises
returns-in_default-trend-clause-rises g c h =
    rises_of c.args.side c.trend-in_default.result (g.P.Shape.function c.args.q.now) c.trend-in_default.ensures c.in_default-trend.not-Less
