use Rattle.rational.proofs.LimitLemmas.{left_limit_one, right_limit_one}
use Rattle.pl_signal.proofs.Values.{one_value}
use Rattle.pl_signal.proofs.Limits.{left_limit_in, right_limit_in}
use Rattle.pl_signal.proofs.laws.limits.Goals as goal

pub returns : goal.returns
returns g c = record {
  left = left_limit_in g.P.Shape;
  right = right_limit_in g.P.Shape;
  one_left = λ ks t v w s. left_limit_one v w (λ u x y. one_value g.P.Shape ks u x y s);
  one_right = λ ks t v w s. right_limit_one v w (λ u x y. one_value g.P.Shape ks u x y s);
}
