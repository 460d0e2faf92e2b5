use Rattle.std.proofs.Common.{◌≡◌, ◌+◌, Some, ◌-ℤ◌, neg_ℤ}
use Rattle.std.specs.Prelude.{slice_get}
use Rattle.rational.specs.Rational.{add, whole}
use Rattle.rational.specs.Time.{◌≈◌}
use Rattle.frac128.specs.Value.{value}
use Rattle.pl_signal.specs.declared.knot.Knot.{Knot}
use Rattle.pl_signal.specs.Knots.{time, start, stop, IsWorth}
use Rattle.pl_signal.specs.Moves.{BasesFrom}
use Rattle.pl_signal.proofs.Telling.{TellsSoFar}
use Rattle.pl_signal.proofs.moves.shifted.Given as goal

abbrev pub invariant-loop-i : goal.invariant-loop-i
invariant-loop-i g l = record {
  tells : TellsSoFar g.P.Shape (λ t v. IsWorth g.P.Shape l.s (add t (whole l.by)) v) l.built;
  begins : start l.built ≈ value l.from;
  ends : (j : _) (k : Knot _) → j + 1 ≡ l.i → slice_get l.s j ≡ Some k → stop l.built ≈ add (time k) (whole (neg_ℤ l.by));
  bases : BasesFrom g.P.Shape (λ b. b -ℤ l.by) l.s l.built;
}
