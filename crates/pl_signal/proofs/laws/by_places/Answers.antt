use Rattle.pl_signal.proofs.Values.{worth_at, worth_between, next_rises}
use Rattle.pl_signal.proofs.Limits.{found}
use Rattle.pl_signal.proofs.laws.by_places.Goals as goal

pub returns : goal.returns
returns g c = record {
  at = worth_at g.P.Shape;
  between = worth_between g.P.Shape;
  found = found g.P.Shape;
  rising = λ ks i k n s. next_rises g.P.Shape ks i k n s.each;
}
