use Rattle.std.proofs.Common.{◌≡◌, ◌+◌, ◌*◌, ◌<◌}
use Rattle.std.specs.Ordering.{nat_cmp}
use Rattle.frac128.proofs.arith.cmp_rests.Given as goal

abbrev pub invariant-loop-top : goal.invariant-loop-top
invariant-loop-top l = record {
  below : l.top < l.bottom;
  other_below : l.other_top < l.other_bottom;
  same : nat_cmp (l.top * l.other_bottom) (l.other_top * l.bottom) ≡ nat_cmp (l.fn.n1 * l.fn.d2) (l.fn.n2 * l.fn.d1);
}

abbrev pub decreases-loop-top : goal.decreases-loop-top
decreases-loop-top l = l.bottom + l.other_bottom
