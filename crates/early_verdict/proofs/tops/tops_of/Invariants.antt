use Rattle.std.proofs.Common.{◌≡◌, ◌≤◌, ℕ, length}
use Rattle.std.specs.Prelude.{slice_get, Some}
use Rattle.early_verdict.specs.Standing.{AsksBelow, top_at}
use Rattle.early_verdict.specs.Tops.{AreUpTo, rest_reach}
use Rattle.stl_syntax.specs.declared.node.Node.{Node}
use Rattle.early_verdict.proofs.tops.tops_of.Given as goal

abbrev pub invariant-loop-i : goal.invariant-loop-i
invariant-loop-i l = record {
  within : l.i ≤ length l.formula.nodes;
  count : length l.tops.items ≡ length l.formula.nodes;
  asks : (j : ℕ) (n : Node) → l.i ≤ j → slice_get l.formula.nodes j ≡ Some n → AsksBelow (top_at l.tops.items) (top_at l.tops.items j) n;
  most : AreUpTo (rest_reach l.formula.nodes l.i) l.tops.items;
}

abbrev pub decreases-loop-i : goal.decreases-loop-i
decreases-loop-i l = l.i
