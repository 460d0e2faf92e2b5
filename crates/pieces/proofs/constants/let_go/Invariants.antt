use Rattle.std.proofs.Common.{◌≡◌, drop}
use Rattle.pieces.proofs.constants.let_go.Given as goal

abbrev pub invariant-loop : goal.invariant-loop
invariant-loop g l = l.steps.items ≡ drop l.counter l.initial.steps.items
