use Rattle.std.proofs.Common.{◌≡◌, ◌<◌, length, Some, ◌-ℤ◌}
use Rattle.std.specs.Prelude.{slice_get}
use Rattle.rational.specs.Rational.{subtract, whole}
use Rattle.rational.specs.Time.{◌≈◌}
use Rattle.pl_signal.specs.declared.knot.Knot.{Knot}
use Rattle.pl_signal.specs.Knots.{time, start, stop, IsWorth}
use Rattle.pl_signal.specs.Moves.{BasesFrom}
use Rattle.pl_signal.proofs.Telling.{TellsSoFar}
use Rattle.pl_signal.proofs.signal.Signal.mirror.Given as goal

abbrev pub invariant-loop-i : goal.invariant-loop-i
invariant-loop-i g l = record {
  inside : l.i < length l.self;
  tells : TellsSoFar g.P.Shape (λ t v. IsWorth g.P.Shape l.self (subtract (whole l.about) t) v) l.built;
  begins : start l.built ≈ subtract (whole l.about) (stop l.self);
  ends : (k : Knot _) → slice_get l.self l.i ≡ Some k → stop l.built ≈ subtract (whole l.about) (time k);
  bases : BasesFrom g.P.Shape (λ b. l.about -ℤ b) l.self l.built;
}

abbrev pub decreases-loop-i : goal.decreases-loop-i
decreases-loop-i g l = l.i
