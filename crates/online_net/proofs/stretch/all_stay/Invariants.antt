use Rattle.std.proofs.Common.{◌≡◌, ◌<◌, ℕ, Some}
use Rattle.std.specs.Prelude.{slice_get}
use Rattle.online_net.specs.Stretches.{StaysFrom}
use Rattle.online_net.proofs.stretch.all_stay.Given as goal

-- the first of the atoms stay
abbrev pub invariant-loop-i : goal.invariant-loop-i
invariant-loop-i l = (i j : ℕ) → i < l.i → slice_get l.atoms i ≡ Some j → StaysFrom l.bound j l.block l.at l.to
