use Rattle.std.proofs.Common.{length, ◌-◌, ◌≤◌, List, ℕ, ◌++◌, take}
use Rattle.stl_syntax.specs.Formula.{Formula}
use Rattle.session_mux.specs.Taking.{IsTaking}
use Rattle.session_mux.proofs.input.Input.feed.Given as goal

abbrev pub invariant-loop-at : goal.invariant-loop-at
invariant-loop-at l = record {
  within : l.at ≤ length l.piece;
  taken : (f : Formula) (bytes written : List ℕ) → IsTaking f l.initial.self bytes written → IsTaking f l.self (bytes ++ take l.at l.piece) written;
}

abbrev pub decreases-loop-at : goal.decreases-loop-at
decreases-loop-at l = length l.piece - l.at
