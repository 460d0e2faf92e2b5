use Rattle.std.proofs.Common.{◌≡◌, length}
use Rattle.growing_sets.specs.Listed.{joined}
use Rattle.growing_sets.proofs.stretches.send_on.Given as goal

abbrev pub invariant-loop : goal.invariant-loop
invariant-loop l = record {
  same : joined l.blocks.items ≡ joined l.initial.blocks.items;
  count : length l.blocks.items ≡ length l.initial.blocks.items;
}
