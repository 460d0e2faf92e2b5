use Rattle.std.proofs.Common.{◌≡◌, length}
use Rattle.value_laws.specs.Kinds.{kleene_shape}
use Rattle.implicants.specs.Upward.{AreWhole}
use Rattle.implicants.proofs.upward.blank.Given as goal

abbrev pub invariant-loop-k : goal.invariant-loop-k
invariant-loop-k l = record {
  count : length l.done.items ≡ l.k;
  whole : AreWhole kleene_shape l.trace l.done.items;
}
