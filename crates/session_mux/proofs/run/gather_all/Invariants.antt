use Rattle.std.proofs.Common.{◌-◌, ◌+◌, ◌≤◌, length, take}
use Rattle.session_mux.specs.Running.{HasGathered}
use Rattle.session_mux.proofs.run.gather_all.Given as goal

-- what was gathered has no more bytes than what was taken, and the room has as many as the piece and a few
abbrev pub invariant-loop-lines : goal.invariant-loop-lines
invariant-loop-lines l =
    HasGathered l.tag l.piece l.most l.bytes l.lines (take l.used l.room.items) × (l.used ≤ l.bytes) × (length l.piece + 32 ≤ length l.room.items)

abbrev pub decreases-loop-lines : goal.decreases-loop-lines
decreases-loop-lines l = l.most - l.lines
