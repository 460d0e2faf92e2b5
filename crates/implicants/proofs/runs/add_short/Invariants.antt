use Rattle.std.proofs.Common.{◌≡◌}
use Rattle.std.specs.Prelude.{IfSome}
use Rattle.frac128.specs.Cuts.{place}
use Rattle.pieces.specs.Chains.{begin_at}
use Rattle.value_laws.specs.Kinds.{kleene_shape}
use Rattle.implicants.specs.Upward.{AddsShort, IsShortOver}
use Rattle.implicants.proofs.runs.add_short.Given as goal

abbrev pub invariant-loop-p : goal.invariant-loop-p
invariant-loop-p l = record {
  so_far : IfSome l.so_far (IsShortOver kleene_shape l.best l.x);
  added : AddsShort kleene_shape l.of l.best l.x l.fn.runs.items l.runs.items;
  at : place l.from ≡ begin_at l.x.from l.x.pieces l.p;
}
