use Rattle.std.proofs.Common.{ℕ, ◌+◌}
use Rattle.frac128.specs.Value.{value}
use Rattle.node_edges.specs.Queues.{track_at, HasMoved, IsQueue, IsTrack}
use Rattle.node_edges.proofs.DroppingLemmas.{IsCutBy}
use Rattle.node_edges.proofs.far.drop_far.Given as goal

abbrev pub invariant-loop-end : goal.invariant-loop-end
invariant-loop-end g l = record {
  track : IsTrack l.pool.all l.edge l.track;
  room : (spare : ℕ) → IsQueue spare l.initial.track.near → IsQueue spare l.track.near;
  moved : HasMoved l.edge l.initial.pool.all l.pool.all;
  cut : IsCutBy g.T.Part (value l.end) (track_at l.initial.pool.all l.edge l.initial.track) (track_at l.pool.all l.edge l.track);
}

abbrev pub decreases-loop-end : goal.decreases-loop-end
decreases-loop-end g l = l.track.far.seen + l.track.far.waits
