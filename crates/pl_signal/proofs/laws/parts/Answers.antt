use Rattle.pl_signal.proofs.Limits.{breakpoint_at, part_in, part_one}
use Rattle.pl_signal.proofs.laws.parts.Goals as goal

pub returns : goal.returns
returns g c = record {
  breakpoint = breakpoint_at g.P.Shape;
  part = part_in g.P.Shape;
  one = part_one g.P.Shape;
}
