use Rattle.std.proofs.Common.{◌≡◌, ◌^◌}
use Rattle.rational.specs.Rational.{IsWithin}
use Rattle.rational.specs.Time.{◌≈◌}
use Rattle.frac128.specs.Value.{value}
use Rattle.frac128.specs.Cuts.{place}
use Rattle.pl_signal.specs.Knots as knots
use Rattle.pl_signal.proofs.Telling as so_far
use Rattle.pieces.specs.Chains.{HasShape, IsWorth}
use Rattle.pieces.proofs.ReadUpTo.{begin_at}
use Rattle.pieces.proofs.signals.signal_of.Given as goal

abbrev pub invariant-loop-i : goal.invariant-loop-i
invariant-loop-i g l = record {
  tells : so_far.TellsSoFar g.P.Shape (IsWorth g.P.Shape l.chain) l.built;
  begins : knots.start l.built ≡ l.chain.from.at;
  at : place l.at ≡ begin_at l.chain.from l.chain.pieces l.i;
  here : value l.at.time ≈ knots.stop l.built;
  within : IsWithin (2 ^ 34) (knots.stop l.built);
  shapes : (p : _) → knots.HasShape l.built p → HasShape l.chain p;
}
