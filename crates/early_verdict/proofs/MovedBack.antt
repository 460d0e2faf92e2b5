-- Times that are moved back, and times that are moved on.
use Rattle.std.proofs.Common.{ℕ, pos}
use Rattle.std.specs.Prelude.{◌↔◌}
use lib.IntN.{neg_ℤ}
use Rattle.rational.specs.Time.{Rational, ◌≤ʳ◌, later, add, whole}
use Rattle.rational.proofs.Order.{le_trans, le_of_same, ge_of_same}
use Rattle.rational.proofs.Shift.{le_shift, le_shift_cancel, shift_forth}
use Rattle.rational.proofs.TimeLemmas.{later-add}

-- moved back by k it is no later exactly where the other moved on by k is
pub le_back : (k : ℕ) (t u : Rational) → (u ≤ʳ add t (whole (neg_ℤ (pos k)))) ↔ (later u k ≤ʳ t)
le_back k t u = (
  λ h. le_trans (le_of_same (later-add u k)) (le_trans (le_shift (pos k) h) (le_of_same (shift_forth t (pos k)))),
  λ h. le_shift_cancel (pos k) (le_trans (ge_of_same (later-add u k)) (le_trans h (ge_of_same (shift_forth t (pos k))))),
)
