use Rattle.std.proofs.Common.{◌≡◌, ◌-◌, ◌≤◌, length, take}
use Rattle.session_mux.specs.Running.{HasGathered}
use Rattle.session_mux.proofs.run.gather_near.Given as goal

-- what was gathered has no more bytes than what was taken
abbrev pub invariant-loop-all : goal.invariant-loop-all
invariant-loop-all l =
    HasGathered l.tag l.piece l.most l.all.bytes l.all.lines (take l.all.used l.room) × (l.all.used ≤ l.all.bytes)
    × (length l.room ≡ length l.initial.room)

abbrev pub decreases-loop-all : goal.decreases-loop-all
decreases-loop-all l = l.most - l.all.lines
