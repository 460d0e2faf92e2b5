use Rattle.std.proofs.Common.{◌≡◌, ℕ, ◌-◌, ◌≤◌, false, Some, length}
use Rattle.std.specs.Prelude.{slice_get}
use Rattle.stl_syntax.specs.declared.node.Node.{Node}
use Rattle.implicants.specs.Signs.{sign_at, AreSigned}
use Rattle.implicants.proofs.signs.signs_of.Given as goal

abbrev pub invariant-loop-j : goal.invariant-loop-j
invariant-loop-j l = record {
  count : length l.signs.items ≡ length l.formula.nodes;
  within : l.j ≤ length l.formula.nodes;
  signed : (k : ℕ) (n : Node) → l.j ≤ k → slice_get l.formula.nodes k ≡ Some n → AreSigned l.signs.items n (sign_at l.signs.items k);
  root : sign_at l.signs.items (length l.formula.nodes - 1) ≡ false;
}

abbrev pub decreases-loop-j : goal.decreases-loop-j
decreases-loop-j l = l.j
