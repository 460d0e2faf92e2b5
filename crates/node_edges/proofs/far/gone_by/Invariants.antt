use Rattle.std.proofs.Common.{◌≤◌, ◌<◌, ◌-◌, ℕ, length, slice_get, IfSome}
use Rattle.rational.specs.Rational.{◌≤ʳ◌}
use Rattle.frac128.specs.Value.{value}
use Rattle.node_edges.proofs.far.gone_by.Given as goal

abbrev pub invariant-loop-gone : goal.invariant-loop-gone
invariant-loop-gone g l = record {
  from : l.from ≤ l.gone;
  within : l.gone ≤ length l.block.items;
  ended : (k : ℕ) → l.from ≤ k → k < l.gone → IfSome (slice_get l.block.items k) (λ v. g.T.Part.end v ≤ʳ value l.end);
}

abbrev pub decreases-loop-gone : goal.decreases-loop-gone
decreases-loop-gone g l = length l.block.items - l.gone
