use Rattle.pl_signal.proofs.PlainLemmas.{reads_is_worth, knots_span, knots_needed}
use Rattle.pl_signal.proofs.laws.as_plain_knots.Goals as goal

pub returns : goal.returns
returns g c = record {
  spans = knots_span g.P.Shape;
  reads = λ ks t v s. reads_is_worth g.P.Shape ks t v s;
  needed = knots_needed g.P.Shape;
}
