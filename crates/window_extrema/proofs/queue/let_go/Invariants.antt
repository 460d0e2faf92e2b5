use Rattle.std.proofs.Common.{◌≡◌, drop}
use Rattle.window_extrema.proofs.queue.let_go.Given as goal

abbrev pub invariant-loop : goal.invariant-loop
invariant-loop g l = l.items.items ≡ drop l.counter l.initial.items.items
