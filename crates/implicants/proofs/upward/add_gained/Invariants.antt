use Rattle.value_laws.specs.Kinds.{kleene_shape}
use Rattle.implicants.specs.Upward.{AddsShort}
use Rattle.implicants.proofs.upward.add_gained.Given as goal

abbrev pub invariant-loop-j : goal.invariant-loop-j
invariant-loop-j l = AddsShort kleene_shape l.k l.best l.x l.fn.gained.items l.gained.items
