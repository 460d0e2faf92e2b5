use Rattle.std.proofs.Common.{◌≡◌, ◌<◌, ℕ, Some}
use Rattle.std.specs.Prelude.{slice_get}
use Rattle.stl_syntax.specs.declared.node.Node.{Node}
use Rattle.online_nodes.specs.StreamedWide.{IsUnstreamed}
use Rattle.online_robust.proofs.streamed.first_unstreamed.Given as goal

abbrev pub invariant-loop-i : goal.invariant-loop-i
invariant-loop-i l = (k : ℕ) → k < l.i → (n : Node) → slice_get l.formula.nodes k ≡ Some n → ¬ IsUnstreamed n
