use Rattle.std.proofs.Common.{ℕ, length}
use Rattle.frac128.specs.Value.{value}
use Rattle.node_edges.specs.Held.{held_of}
use Rattle.node_edges.specs.Queues.{edge_of, IsQueue}
use Rattle.node_edges.proofs.DroppingLemmas.{IsCutBy}
use Rattle.node_edges.proofs.queue.Queue.drop_by.Given as goal

abbrev pub invariant-loop-v : goal.invariant-loop-v
invariant-loop-v g l = record {
  read : IsQueue 0 l.self;
  cut : IsCutBy g.T.Part (value l.end) (edge_of l.initial.self) (edge_of l.self);
  kept : (spare : ℕ) → IsQueue spare l.initial.self → IsQueue spare l.self;
}

abbrev pub decreases-loop-v : goal.decreases-loop-v
decreases-loop-v g l = length (held_of (edge_of l.self))
