use Rattle.std.proofs.Common.{◌≡◌, ◌-◌, ◌≤◌, length, take}
use Rattle.frac128.specs.Cuts.{place}
use Rattle.growing_sets.specs.Spans.{EndBefore}
use Rattle.growing_sets.specs.Listed.{joined}
use Rattle.growing_sets.proofs.stretches.reaching_in.Given as goal

abbrev pub invariant-loop-block : goal.invariant-loop-block
invariant-loop-block l = record {
  seen : l.seen ≡ length (joined (take l.block l.blocks.items));
  within : l.block ≤ length l.blocks.items;
  ends : EndBefore (place l.cut) (joined (take l.block l.blocks.items));
}

abbrev pub decreases-loop-block : goal.decreases-loop-block
decreases-loop-block l = length l.blocks.items - l.block
