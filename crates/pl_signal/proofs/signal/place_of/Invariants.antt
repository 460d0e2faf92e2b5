use Rattle.std.proofs.Common.{◌≡◌, ◌-◌, ◌<◌, ◌≤◌, length, Some}
use Rattle.std.specs.Prelude.{slice_get}
use Rattle.rational.specs.Time.{◌≤ʳ◌, ◌<ʳ◌}
use Rattle.frac128.specs.Value.{value}
use Rattle.pl_signal.specs.Knots.{time}
use Rattle.pl_signal.specs.declared.knot.Knot.{Knot}
use Rattle.pl_signal.proofs.signal.place_of.Given as goal

abbrev pub invariant-loop-from : goal.invariant-loop-from
invariant-loop-from g l = record {
  order : l.from < l.to;
  inside : l.to ≤ length l.knots;
  not_later : (k : Knot _) → slice_get l.knots l.from ≡ Some k → time k ≤ʳ value l.t;
  later : (k : Knot _) → slice_get l.knots l.to ≡ Some k → value l.t <ʳ time k;
}

abbrev pub decreases-loop-from : goal.decreases-loop-from
decreases-loop-from g l = l.to - l.from
