use Rattle.std.proofs.Common.{◌≡◌, ◌+◌, ◌-◌, ◌<◌, length, take, drop}
use Rattle.growing_sets.specs.Listed.{joined}
use Rattle.growing_sets.proofs.stretches.spot_of.Given as goal

abbrev pub invariant-loop-block : goal.invariant-loop-block
invariant-loop-block l = record {
  before : l.at ≡ length (joined (take l.block l.blocks.items)) + l.index;
  left : l.index < length (joined (drop l.block l.blocks.items));
}

abbrev pub decreases-loop-block : goal.decreases-loop-block
decreases-loop-block l = length l.blocks.items - l.block
