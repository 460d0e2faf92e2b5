use Rattle.std.proofs.Common.{◌≡◌, None}
use Rattle.frac128.specs.Cuts.{place}
use Rattle.pieces.specs.Chains.{begin_at}
use Rattle.pieces.specs.Meeting.{StandsFor}
use Rattle.pieces.proofs.window.slide_over.Given as goal

abbrev pub invariant-loop-i : goal.invariant-loop-i
invariant-loop-i g l = record {
  begins : place l.from ≡ begin_at l.s.from l.s.pieces l.i;
  stands : StandsFor g.P.Shape l.s (begin_at l.s.from l.s.pieces l.i) l.window;
  way : l.window.way ≡ l.fn.window.way;
  still : l.fault ≡ None;
}
