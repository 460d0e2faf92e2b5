use Rattle.report.proofs.SignalLaw.{signal_describes}
use Rattle.report.proofs.laws.signals_describe.Goals as goal

pub returns : goal.returns
returns g c = λ p tr signal verdicts ok tells. signal_describes g.P.Shape p tr signal ok tells verdicts
