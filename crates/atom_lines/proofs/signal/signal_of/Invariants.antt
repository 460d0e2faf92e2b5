use Rattle.std.proofs.Common.{◌-◌}
use Rattle.atom_lines.specs.Growing.{IsReachAt, HasGrown}
use Rattle.atom_lines.proofs.signal.signal_of.Given as goal

-- the signal has grown up to the row before
abbrev pub invariant-loop-r : goal.invariant-loop-r
invariant-loop-r g l = record {
  sum : IsReachAt l.bound l.node l.trace (l.r - 1) l.from;
  grown : HasGrown g.P.Shape g.P.Piecewise.read_as l.bound l.node l.trace (l.r - 1) l.signal;
}
