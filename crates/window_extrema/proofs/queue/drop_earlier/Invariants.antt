use Rattle.std.proofs.Common.{◌≡◌, ◌≤◌, length}
use Rattle.std.specs.VecDeque.{deque_capacity}
use Rattle.window_extrema.specs.Stairs.{from_place}
use Rattle.window_extrema.proofs.queue.drop_earlier.Given as goal

abbrev pub invariant-loop-left : goal.invariant-loop-left
invariant-loop-left l =
    (from_place l.left l.queue.items ≡ from_place l.count l.initial.queue.items)
    × (deque_capacity l.queue ≡ deque_capacity l.initial.queue)
    × (length l.queue.items ≤ length l.initial.queue.items)

abbrev pub decreases-loop-left : goal.decreases-loop-left
decreases-loop-left l = length l.queue.items
