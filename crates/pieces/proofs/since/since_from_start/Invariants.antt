use Rattle.std.proofs.Common.{◌≡◌, ◌+◌, ◌-◌, ◌^◌, None, length}
use Rattle.rational.specs.Rational.{IsWithin}
use Rattle.rational.specs.Places.{AtMost}
use Rattle.pieces.specs.Chains.{stop}
use Rattle.pieces.proofs.ReadUpTo.{StandsAt}
use Rattle.pieces.proofs.SinceSteps.{Breaks, Stands}
use Rattle.pieces.proofs.since.since_from_start.Given as goal

abbrev pub invariant-loop-i : goal.invariant-loop-i
invariant-loop-i g l = record {
  stands : Stands g.P.Shape l.a l.b l.built l.before;
  begins : l.built.from ≡ l.a.from;
  within : IsWithin (2 ^ 34) (stop l.built).at;
  above : AtMost l.a.from (stop l.built);
  below : AtMost (stop l.built) (stop l.a);
  left : StandsAt l.a (stop l.built) l.i;
  right : StandsAt l.b (stop l.built) l.j;
  event : Breaks g.P.Shape l.a l.b (stop l.built).at;
  still : l.fault ≡ None;
}

abbrev pub decreases-loop-i : goal.decreases-loop-i
decreases-loop-i g l = (length l.a.pieces - l.i) + (length l.b.pieces - l.j)
