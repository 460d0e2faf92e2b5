use Rattle.std.proofs.Common.{◌≡◌, ℕ, ◌-◌, ◌++◌, length}
use Rattle.online_nodes.specs.Held.{held_at}
use Rattle.verdict_stream.specs.Watching.{Pass, CanTake, HasTaken}
use Rattle.verdict_stream.proofs.watcher.Network.take_all.Given as goal

abbrev pub invariant-loop-verdict : goal.invariant-loop-verdict
invariant-loop-verdict l = record {
  formula : l.self.formula ≡ l.initial.self.formula;
  taken : (p : Pass) → CanTake p l.initial.self → (n : ℕ) × HasTaken p n l.self l.initial.text (l.text ++ l.lines);
}

abbrev pub decreases-loop-verdict : goal.decreases-loop-verdict
decreases-loop-verdict l = length (held_at l.self.net.edges (length l.self.net.operators - 1))
