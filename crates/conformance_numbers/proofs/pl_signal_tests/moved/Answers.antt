use Rattle.std.proofs.Common.{ℤ, ◌+◌, ◌^◌, ◌≤◌, to_z, of_z, subst, arith, lit<}
use Rattle.std.specs.Int.{w64}
use Rattle.std.specs.Int.RustNames.{unsigned_abs}
use Rattle.std.proofs.lemmas.Int.{ints}
use Rattle.rational.specs.Rational.{Rational, IsWithin, FitsFloor, add, whole, ◌≤ʳ◌}
use Rattle.rational.proofs.Order.{le_trans, le_of_same, ge_of_same}
use Rattle.rational.proofs.Mixed.{fits_of_within, within_add, within_whole}
use Rattle.frac128.specs.Value.{value}
use Rattle.conformance_numbers.proofs.pl_signal_tests.moved.Goals as goal

moved_fits : (t : Rational) (by : ℤ) → unsigned_abs by ≤ 2 ^ 31 → IsWithin (2 ^ 33) t → FitsFloor w64 (add t (whole by))
moved_fits t by h k = fits_of_within w64 (2 ^ 33 + 2 ^ 31) (lit< tt) (within_add (2 ^ 33) (2 ^ 31) k (within_whole (2 ^ 31) by h))

pub shift-requires : goal.shift-requires
shift-requires g c = moved_fits (value c.at-first.result) (to_z w64 (of_z w64 c.from-ticks.result)) (omega (arith, ints)) c.at-first.ensures

pub shift-requires-2 : goal.shift-requires-2
shift-requires-2 g c = moved_fits (value c.at-last.result) (to_z w64 (of_z w64 c.from-ticks.result)) (omega (arith, ints)) c.at-last.ensures

pub shift_clip-requires-clause-bases : goal.shift_clip-requires-clause-bases
shift_clip-requires-clause-bases g c = λ p h. omega (arith, ints)

pub shift_clip-requires-clause-first : goal.shift_clip-requires-clause-first
shift_clip-requires-clause-first g c =
    subst (λ t. t ≤ʳ add (value c.at-first.result) (whole (to_z w64 (of_z w64 c.from-ticks.result)))) c.start.ensures.value
    (le_trans c.expect_order-2.ensures (le_of_same c.shift.ensures.value))

pub shift_clip-requires-clause-last : goal.shift_clip-requires-clause-last
shift_clip-requires-clause-last g c =
    subst (λ t. add (value c.at-last.result) (whole (to_z w64 (of_z w64 c.from-ticks.result))) ≤ʳ t) c.stop.ensures.value
    (le_trans (ge_of_same c.shift-2.ensures.value) c.expect_order-3.ensures)
