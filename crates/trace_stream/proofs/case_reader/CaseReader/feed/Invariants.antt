use Rattle.std.proofs.Common.{◌≡◌, length, ◌-◌, ◌≤◌, List, ℕ, ◌++◌, take}
use Rattle.trace_stream.specs.Kept.{IsKeptAs}
use Rattle.trace_stream.proofs.case_reader.CaseReader.feed.Given as goal

abbrev pub invariant-loop-at : goal.invariant-loop-at
invariant-loop-at g l = record {
  within : l.at ≤ length l.piece;
  limits : l.self.rows.limits ≡ l.initial.self.rows.limits;
  taken : (bytes : List ℕ) → IsKeptAs g.K.Keep.stands l.formula l.initial.self.rows l.initial.self.kept bytes
      → IsKeptAs g.K.Keep.stands l.formula l.self.rows l.self.kept (bytes ++ take l.at l.piece);
}

abbrev pub decreases-loop-at : goal.decreases-loop-at
decreases-loop-at g l = length l.piece - l.at
