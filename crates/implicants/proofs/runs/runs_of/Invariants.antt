use Rattle.std.proofs.Common.{◌≡◌, length}
use Rattle.value_laws.specs.Kinds.{kleene_shape}
use Rattle.implicants.specs.Upward.{AreShortEach}
use Rattle.implicants.proofs.runs.runs_of.Given as goal

abbrev pub invariant-loop-k : goal.invariant-loop-k
invariant-loop-k l = record {
  count : length l.all.items ≡ l.k;
  short : AreShortEach kleene_shape l.signs l.nodes l.all.items;
}
