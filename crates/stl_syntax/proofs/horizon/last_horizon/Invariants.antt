use Rattle.std.proofs.Common.{◌≡◌, length}
use Rattle.stl_syntax.specs.Horizons.{AreHorizonsBelow}
use Rattle.stl_syntax.proofs.horizon.last_horizon.Given as goal

abbrev pub invariant-loop-i : goal.invariant-loop-i
invariant-loop-i l = (length l.table ≡ 256) × AreHorizonsBelow l.i l.nodes l.table
