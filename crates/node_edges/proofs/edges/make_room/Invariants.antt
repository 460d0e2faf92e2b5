use Rattle.std.proofs.Common.{◌≡◌, ℕ, ◌<◌, List, length, get_or}
use Rattle.node_edges.specs.declared.far.Track.{Track}
use Rattle.node_edges.specs.Queues.{Block, edges_from, AreTracks, IsQueue}
use Rattle.node_edges.proofs.edges.make_room.Given as goal

abbrev pub invariant-loop-i : goal.invariant-loop-i
invariant-loop-i g l = record {
  count : length l.tracks.items ≡ length l.initial.tracks.items;
  same : (all : List (List (Block _))) → edges_from all 0 l.tracks.items ≡ edges_from all 0 l.initial.tracks.items;
  kept : (all : List (List (Block _))) (spare : ℕ) → AreTracks all l.initial.tracks.items spare → AreTracks all l.tracks.items spare;
  ready : (k : ℕ) (d : Track _) → k < l.i → IsQueue l.room (get_or l.tracks.items k d).near;
}
