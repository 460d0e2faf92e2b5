use Rattle.pl_signal.proofs.Values.{one_value, every_time, worth_within, worth_same}
use Rattle.pl_signal.proofs.laws.one_value.Goals as goal

pub returns : goal.returns
returns g c = record {
  one = one_value g.P.Shape;
  some = every_time g.P.Shape;
  within = worth_within g.P.Shape;
  alike = λ ks t u v w e f. worth_same g.P.Shape ks v w e f;
}
