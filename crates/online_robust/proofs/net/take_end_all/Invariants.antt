use Rattle.std.proofs.Common.{◌≡◌, None, length}
use Rattle.online_robust.specs.Nets.{CanGoByEnd, Going, Passing}
use Rattle.online_robust.proofs.net.take_end_all.Given as goal

abbrev pub invariant-loop-i : goal.invariant-loop-i
invariant-loop-i l =
    (length l.stations.items ≡ length l.initial.stations.items)
    × ((p : Passing) → CanGoByEnd p l.initial.edges l.initial.stations.items l.now → Going p l.i l.edges l.stations.items)
    × (l.fault ≡ None)
