use Rattle.std.proofs.Common.{◌≡◌, length}
use Rattle.implicants.specs.Upward.{Settles}
use Rattle.implicants.proofs.upward.settle.Given as goal

abbrev pub invariant-loop-j : goal.invariant-loop-j
invariant-loop-j l = record {
  count : length l.runs.items ≡ length l.fn.runs.items;
  settles : Settles l.gained l.fn.runs.items l.runs.items;
}
