use Rattle.std.proofs.Common.{true}
use Rattle.rational.specs.Time.{◌≈◌}
use Rattle.frac128.specs.Value.{value}
use Rattle.std.specs.Prelude.{Some}
use Rattle.online_robust.specs.ReadLines.{HasReached, IsBuilt}
use Rattle.online_robust.specs.Couples.{CanNegate, Couple, IsNegatedTo, left_of, turns_left_of}
use Rattle.online_robust.specs.Tails.{IsUnderWay}
use Rattle.online_robust.proofs.pointwise.Not.sweep.Given as goal

abbrev pub invariant-loop-self : goal.invariant-loop-self
invariant-loop-self l = record {
  went : (x : Couple) → CanNegate x l.fn.self l.fn.edges → value l.to ≈ x.to
      → HasReached (left_of x true) x.reach (value l.tail.end.at) (Some l.tail.end) × IsNegatedTo x l.self l.edges (value l.tail.end.at);
  way : IsUnderWay (value l.to) l.self.of l.self.of l.node l.with_first
      (λ ks. (x : Couple) → CanNegate x l.fn.self l.fn.edges → value l.to ≈ x.to → IsBuilt (left_of x true) x.reach x.from (value l.tail.end.at) ks)
      l.fn.edges l.tail l.edges;
}

abbrev pub decreases-loop-self : goal.decreases-loop-self
decreases-loop-self l = turns_left_of l.self l.edges
