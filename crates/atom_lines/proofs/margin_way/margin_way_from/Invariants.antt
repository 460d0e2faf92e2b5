use Rattle.std.proofs.Common.{◌<◌, ◌≤◌, ◌-◌}
use Rattle.atom_lines.specs.Growing.{IsReach}
use Rattle.atom_lines.specs.Rows.{row_of}
use Rattle.atom_lines.proofs.MarginWayLemmas.{IsLevelTo}
use Rattle.atom_lines.proofs.margin_way.margin_way_from.Given as goal

-- the sum stays up to the row, and is known there
abbrev pub invariant-loop-next : goal.invariant-loop-next
invariant-loop-next l = record {
  later : l.r < l.at;
  within : l.at ≤ l.last;
  order : (row_of l.trace l.r).time < (row_of l.trace l.at).time;
  reach : IsReach l.atom l.trace l.at l.sum;
  level : IsLevelTo l.bound l.node l.trace l.r l.at l.from;
}

abbrev pub decreases-loop-next : goal.decreases-loop-next
decreases-loop-next l = l.last - l.at
