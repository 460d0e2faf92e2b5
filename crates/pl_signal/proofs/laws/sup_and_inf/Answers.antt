use Rattle.pl_signal.proofs.SupLemmas.{signal_sup, signal_inf}
use Rattle.pl_signal.proofs.laws.sup_and_inf.Goals as goal

pub returns : goal.returns
returns g c = record {
  sup = signal_sup g.P.Shape g.met.P.Shape.lowest_is_least;
  inf = signal_inf g.P.Shape g.met.P.Shape.highest_is_greatest;
}
