use Rattle.std.proofs.Common.{◌≡◌, ℕ, ◌+◌, ◌-◌, ◌≤◌, length}
use Rattle.std.specs.VecDeque.{deque_capacity}
use Rattle.window_extrema.specs.Stairs.{AreStairsTo, spread}
use Rattle.window_extrema.proofs.queue.drop_smaller.Given as goal

abbrev pub invariant-loop-before : goal.invariant-loop-before
invariant-loop-before g l =
    (l.passed + spread l.queue.items ≤ l.place)
    × ((low : ℕ) → AreStairsTo g.P.Shape.function l.items.items l.place low l.place l.initial.queue.items
    → AreStairsTo g.P.Shape.function l.items.items l.place low (l.place - l.passed) l.queue.items)
    × (deque_capacity l.queue ≡ deque_capacity l.initial.queue)
    × (length l.queue.items ≤ length l.initial.queue.items)
    × (l.steps + length l.queue.items ≤ l.initial.steps + length l.initial.queue.items)

abbrev pub decreases-loop-before : goal.decreases-loop-before
decreases-loop-before g l = length l.queue.items
