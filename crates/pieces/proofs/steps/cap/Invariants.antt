use Rattle.std.proofs.Common.{◌≡◌, ◌≤◌, length}
use Rattle.std.specs.VecDeque.{deque_len, deque_capacity}
use Rattle.frac128.specs.Cuts.{place}
use Rattle.pieces.proofs.StepLemmas.{Capping}
use Rattle.pieces.proofs.steps.cap.Given as goal

abbrev pub invariant-loop-last : goal.invariant-loop-last
invariant-loop-last g l = record {
  capping : Capping g.P.Shape l.side (place l.from) l.initial.steps.items l.constant l.steps.items;
  room : deque_len l.steps ≤ deque_len l.initial.steps;
  capacity : deque_capacity l.steps ≡ deque_capacity l.initial.steps;
}

abbrev pub decreases-loop-last : goal.decreases-loop-last
decreases-loop-last g l = length l.steps.items
