use Rattle.std.proofs.Common.{◌≡◌, length}
use Rattle.stl_syntax.specs.Horizons.{AreHorizonsBelow}
use Rattle.online_robust.specs.Firsts.{AreFirstStations}
use Rattle.online_robust.proofs.net.stations_of.Given as goal

abbrev pub invariant-loop-i : goal.invariant-loop-i
invariant-loop-i l =
    AreFirstStations l.formula.nodes l.i l.stations.items × (length l.horizons.items ≡ l.i) × AreHorizonsBelow l.i l.formula.nodes l.horizons.items
