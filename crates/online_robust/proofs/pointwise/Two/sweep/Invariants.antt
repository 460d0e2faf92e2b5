use Rattle.rational.specs.Time.{◌≈◌}
use Rattle.frac128.specs.Value.{value}
use Rattle.std.specs.Prelude.{◌≡◌, None, Some}
use Rattle.online_robust.specs.ReadLines.{HasReached, IsBuilt}
use Rattle.online_robust.specs.Couples.{CanJoin, Couple, IsJoinedTo, both_of, turns_left}
use Rattle.online_robust.specs.Tails.{IsUnderWay}
use Rattle.online_robust.proofs.pointwise.Two.sweep.Given as goal

abbrev pub invariant-loop-self : goal.invariant-loop-self
invariant-loop-self l = record {
  went : (x : Couple) → CanJoin x l.fn.self l.fn.edges → value l.to ≈ x.to
      → HasReached (both_of x l.self) x.reach (value l.tail.end.at) (Some l.tail.end) × IsJoinedTo x l.self l.edges (value l.tail.end.at);
  way : IsUnderWay (value l.to) l.self.left l.self.right l.node l.with_first
      (λ ks. (x : Couple) → CanJoin x l.fn.self l.fn.edges → value l.to ≈ x.to → IsBuilt (both_of x l.self) x.reach x.from (value l.tail.end.at) ks)
      l.fn.edges l.tail l.edges;
  still : l.fault ≡ None;
}

abbrev pub decreases-loop-self : goal.decreases-loop-self
decreases-loop-self l = turns_left l.self l.edges (value l.tail.end.at) (value l.to)
