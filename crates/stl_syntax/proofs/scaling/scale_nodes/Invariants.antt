use Rattle.std.proofs.Common.{◌≡◌}
use Rattle.stl_syntax.specs.Scaling.{scaled_node}
use Rattle.stl_syntax.proofs.ScalingLemmas.{replaced}
use Rattle.stl_syntax.proofs.scaling.scale_nodes.Given as goal

abbrev pub invariant-loop-node : goal.invariant-loop-node
invariant-loop-node l = l.nodes ≡ replaced (scaled_node l.time l.value) l.initial.nodes l.node-index
