use Rattle.rational.specs.Line.{gap_line}
use Rattle.rational.proofs.Meetings.{order_of_gap}
use Rattle.frac128.specs.Line.{line}
use Rattle.frac128.proofs.ramp.Ramp.cmp_apart.Goals as goal

pub returns : goal.returns
returns c = let f = line c.args.self.now in let g = line c.args.other.now in order_of_gap c.sign_at.result f g _ (c.sign_at.ensures (gap_line f g) c.of.ensures)
