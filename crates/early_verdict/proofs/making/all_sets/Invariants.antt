use Rattle.std.proofs.Common.{◌≡◌, ℕ, pos, length, take}
use Rattle.std.specs.Prelude.{slice_get, Some}
use Rattle.rational.specs.Rational.{whole}
use Rattle.stl_syntax.specs.declared.node.Node.{Node}
use Rattle.early_verdict.specs.Standing.{top_at}
use Rattle.early_verdict.specs.Making.{IsMade}
use Rattle.early_verdict.specs.declared.sets.Sets.{Sets}
use Rattle.early_verdict.proofs.making.all_sets.Given as goal

abbrev pub invariant-loop-i : goal.invariant-loop-i
invariant-loop-i l = record {
  count : length l.all.items ≡ l.i;
  made : (j : ℕ) (n : Node) (s : Sets) → slice_get l.formula.nodes j ≡ Some n → slice_get l.all.items j ≡ Some s
      → IsMade (whole (pos l.start)) (top_at l.tops.items j) n (take j l.all.items) s;
}
