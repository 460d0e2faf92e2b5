use Rattle.std.proofs.Common.{◌≡◌, ◌+◌, ◌-◌, ◌≤◌, length}
use Rattle.rational.specs.Places.{AtMost}
use Rattle.pieces.specs.Chains.{stop}
use Rattle.pieces.specs.Levels.{AreTurned, Counts}
use Rattle.pieces.specs.Over.{BasesOver}
use Rattle.pieces.specs.Windows.{BestOver}
use Rattle.pieces.proofs.ChainsTell.{TellsSoFar}
use Rattle.pieces.proofs.levels.see_all.Given as goal

abbrev pub invariant-loop-seen : goal.invariant-loop-seen
invariant-loop-seen g l = record {
  tells : TellsSoFar g.P.Shape (BestOver g.P.Shape l.s l.way.over l.way.side) l.out;
  bases : BasesOver g.P.Shape l.s l.way.over l.out;
  begins : l.out.from ≡ l.s.from;
  above : AtMost l.s.from (stop l.out);
  below : AtMost (stop l.out) (stop l.s);
  counts : Counts g.P.Shape l.s l.way (stop l.out) l.seen;
  turned : AreTurned g.P.Shape l.way.side l.s.pieces l.range.items;
  low : l.range.low ≤ l.seen.low;
  high : l.range.high ≤ l.seen.high;
}

abbrev pub decreases-loop-seen : goal.decreases-loop-seen
decreases-loop-seen g l = (length l.s.pieces - l.seen.high) + (length l.s.pieces - l.seen.low)
