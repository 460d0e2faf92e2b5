use Rattle.std.proofs.Common.{◌≡◌, ◌-◌, ◌≤◌, length}
use Rattle.implicants.specs.Needs.{passed}
use Rattle.implicants.proofs.keeping.pass_over.Given as goal

abbrev pub invariant-loop-c : goal.invariant-loop-c
invariant-loop-c l = record {
  above : l.to ≤ l.c;
  within : l.c ≤ l.left;
  count : length l.kept.items ≡ length l.fn.kept.items;
  same : passed l.marks l.to (l.c - l.to) l.kept.items ≡ passed l.marks l.to (l.left - l.to) l.fn.kept.items;
}

abbrev pub decreases-loop-c : goal.decreases-loop-c
decreases-loop-c l = l.c - l.to
