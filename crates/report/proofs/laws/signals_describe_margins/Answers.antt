use Rattle.report.proofs.MarginLaw.{knots_describe}
use Rattle.report.proofs.laws.signals_describe_margins.Goals as goal

pub returns : goal.returns
returns g c = knots_describe g.P.Shape
