use Rattle.std.proofs.Common.{◌≡◌, ◌<◌, ◌++◌, drop, length, List}
use Rattle.online_robust.specs.Putting.{HasPut}
use Rattle.online_robust.specs.ToldLines.{lines_told}
use Rattle.online_robust.specs.declared.line.MarginLine.{MarginLine}
use Rattle.online_robust.proofs.slide.put_gaps.Given as goal

abbrev pub invariant-loop-i : goal.invariant-loop-i
invariant-loop-i l = record {
  within : l.node < length l.edges.edges;
  done : List MarginLine;
  put : HasPut l.node done l.initial.edges l.edges;
  all : lines_told l.fn.from l.told.pieces l.point ≡ done ++ lines_told l.at (drop l.i l.told.pieces) l.point;
}
