use Rattle.std.proofs.Common.{◌<◌, ◌≤◌, ◌-◌, ◌^◌}
use Rattle.atom_lines.specs.Growing.{IsReachAt}
use Rattle.atom_lines.specs.Rows.{row_of}
use Rattle.atom_pieces.proofs.TruthChains.{HasTruths}
use Rattle.atom_pieces.proofs.truths.truth_pieces.Given as goal

-- the pieces tell the truth up to the row, where from they end on it stays
abbrev pub invariant-loop-at : goal.invariant-loop-at
invariant-loop-at l = record {
  within : l.at ≤ l.last;
  few : (row_of l.trace l.at).time < 2 ^ 32;
  sum : IsReachAt l.bound l.node l.trace l.at l.sum;
  grown : HasTruths l.bound l.node l.trace l.at l.holds l.chain;
}

abbrev pub decreases-loop-at : goal.decreases-loop-at
decreases-loop-at l = l.last - l.at
