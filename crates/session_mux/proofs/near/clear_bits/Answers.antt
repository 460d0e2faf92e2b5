use Rattle.std.proofs.Common.{◌≡◌, ℕ, zero, suc, ◌^◌, ◌<◌, arith, w64}
use Rattle.std.specs.Int.{bit_at, trailing_zeros}
use Rattle.std.proofs.lemmas.Nat.Bits.{bit_at-zero, bit_at-trailing_zeros}
use Rattle.session_mux.proofs.near.clear_bits.Goals as goal

clear_below : (m : ℕ) → m < 2 ^ 64 → (k : ℕ) → k < trailing_zeros w64 m → bit_at m k ≡ 0
clear_below zero fits k less = bit_at-zero k
clear_below (suc m) fits k less = (bit_at-trailing_zeros w64 (suc m) (omega arith) fits).2 k less

pub returns : goal.returns
returns c = clear_below c.args.marks c.ranges.marks.fits
