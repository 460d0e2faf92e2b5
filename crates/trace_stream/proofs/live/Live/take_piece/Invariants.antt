use Rattle.std.proofs.Common.{◌≡◌, length, ◌-◌, ◌≤◌, List, ℕ, ◌++◌, take}
use Rattle.trace_stream.specs.Following.{IsLiveOpen}
use Rattle.trace_stream.proofs.live.Live.take_piece.Given as goal

abbrev pub invariant-loop-at : goal.invariant-loop-at
invariant-loop-at g l = record {
  within : l.at ≤ length l.piece;
  limits : l.self.rows.limits ≡ l.initial.self.rows.limits;
  formula : l.self.formula ≡ l.initial.self.formula;
  taken : (bytes written : List ℕ) → IsLiveOpen g.F.Follow.stands g.F.Follow.owes g.F.Follow.kind l.initial.self bytes written
      → IsLiveOpen g.F.Follow.stands g.F.Follow.owes g.F.Follow.kind l.self (bytes ++ take l.at l.piece) written;
}

abbrev pub decreases-loop-at : goal.decreases-loop-at
decreases-loop-at g l = length l.piece - l.at
