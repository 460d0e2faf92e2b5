use Rattle.pl_signal.proofs.Limits.{limited, limited_start, limited_stop, worth_bounded}
use Rattle.pl_signal.proofs.laws.limited.Goals as goal

pub returns : goal.returns
returns g c = record {
  limited = λ ks s a b w. limited g.P.Shape ks s w a b;
  times = λ ks s h. (limited_start g.P.Shape ks s h, limited_stop g.P.Shape ks s h);
  values = λ ks t v h w. worth_bounded g.P.Shape ks h t v w;
}
