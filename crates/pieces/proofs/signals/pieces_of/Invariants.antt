use Rattle.std.proofs.Common.{◌≡◌, Some}
use Rattle.std.specs.Prelude.{slice_get}
use Rattle.rational.specs.Places.{Same}
use Rattle.pl_signal.specs.Knots as knots
use Rattle.pl_signal.specs.declared.knot.Knot.{Knot}
use Rattle.pieces.specs.Chains.{HasShape, stop}
use Rattle.pieces.specs.Knots.{before}
use Rattle.pieces.proofs.ChainsTell.{TellsSoFar}
use Rattle.pieces.proofs.signals.pieces_of.Given as goal

abbrev pub invariant-loop-i : goal.invariant-loop-i
invariant-loop-i g l = record {
  tells : TellsSoFar g.P.Shape (knots.IsWorth g.P.Shape l.signal) l.built;
  begins : l.built.from ≡ before (knots.start l.signal);
  ends : (k : Knot _) → slice_get l.signal l.i ≡ Some k → Same (stop l.built) (before (knots.time k));
  shapes : (p : _) → HasShape l.built p → knots.HasShape l.signal p;
}
