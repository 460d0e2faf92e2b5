use Rattle.std.proofs.Common.{◌≡◌, ◌⊎◌, ◌+◌, ◌-◌, ◌^◌, None, length}
use Rattle.rational.specs.Rational.{IsWithin}
use Rattle.rational.specs.Places.{AtMost}
use Rattle.pl_signal.specs.Joining.{ChosenOf}
use Rattle.pieces.specs.Chains.{IsWorth, HasShape, stop}
use Rattle.pieces.proofs.ChainsTell.{TellsSoFar}
use Rattle.pieces.proofs.ReadUpTo.{StandsAt}
use Rattle.pieces.proofs.pointwise.combined.Given as goal

abbrev pub invariant-loop-i : goal.invariant-loop-i
invariant-loop-i g l = record {
  tells : TellsSoFar g.P.Shape (ChosenOf l.side (IsWorth g.P.Shape l.a) (IsWorth g.P.Shape l.b)) l.built;
  begins : l.built.from ≡ l.a.from;
  within : IsWithin (2 ^ 34) (stop l.built).at;
  above : AtMost l.a.from (stop l.built);
  below : AtMost (stop l.built) (stop l.a);
  left : StandsAt l.a (stop l.built) l.i;
  right : StandsAt l.b (stop l.built) l.j;
  still : l.fault ≡ None;
  shapes : (p : _) → HasShape l.built p → HasShape l.a p ⊎ HasShape l.b p;
}

abbrev pub decreases-loop-i : goal.decreases-loop-i
decreases-loop-i g l = (length l.a.pieces - l.i) + (length l.b.pieces - l.j)
