use Rattle.std.proofs.Common.{◌≡◌, None, length}
use Rattle.frac128.specs.Value.{value}
use Rattle.online_robust.specs.Held.{fresh_at}
use Rattle.online_robust.specs.Slides.{Course, IsOnWay, ReadsOn, Stays}
use Rattle.online_robust.proofs.slide.take_in.Given as goal

abbrev pub invariant-loop-edges : goal.invariant-loop-edges
invariant-loop-edges l = record {
  on : (x : Course) → IsOnWay x l.fn.stream None l.fn.edges → x.window.of ≡ l.of → x.to ≡ value l.to → IsOnWay x l.stream None l.edges;
  kept : Stays l.fn.stream l.stream;
  read : ReadsOn l.of l.fn.edges l.edges;
  still : l.fault ≡ None;
}

abbrev pub decreases-loop-edges : goal.decreases-loop-edges
decreases-loop-edges l = length (fresh_at l.edges l.of)
