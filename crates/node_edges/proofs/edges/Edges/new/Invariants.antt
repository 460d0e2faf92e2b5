use Rattle.std.proofs.Common.{◌≡◌, ℕ, ◌+◌, ◌*◌, [], length}
use Rattle.std.specs.List.{All}
use Rattle.node_edges.specs.Queues.{list_of}
use Rattle.node_edges.proofs.TrackLemmas.{IsNew}
use Rattle.node_edges.proofs.edges.Edges.new.Given as goal

abbrev pub invariant-loop-made : goal.invariant-loop-made
invariant-loop-made g l = record {
  blank : (k : ℕ) → list_of l.pool.all k ≡ [];
  lists : length l.pool.all ≡ 2 * l.made + 1;
  count : length l.tracks.items ≡ l.made;
  new : All IsNew l.tracks.items;
}
