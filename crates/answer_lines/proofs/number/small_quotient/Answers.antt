use Rattle.std.proofs.Common.{ℕ, ◌<◌, ◌%◌, refl}
use Rattle.std.specs.Int.{IsGcd}
use Rattle.std.proofs.lemmas.Nat.Gcd.{IsGcd-from_mod}
use Rattle.rational.proofs.Lowest.{gcd_pos}
use Rattle.answer_lines.proofs.number.small_quotient.Goals as goal

-- a common divisor of the denominator and the remainder is above 0
some : (size den common : ℕ) → 0 < den → IsGcd den (size % den) common → 0 < common
some size den common h is = gcd_pos size den common h (IsGcd-from_mod size den common is)

pub nonzero_div-size : goal.nonzero_div-size
nonzero_div-size c = some c.args.size c.args.den c.gcd-common.result c.requires c.gcd-common.ensures

pub nonzero_div-den : goal.nonzero_div-den
nonzero_div-den c = some c.args.size c.args.den c.gcd-common.result c.requires c.gcd-common.ensures

pub returns : goal.returns
returns c = (
  c.gcd-common.result,
  IsGcd-from_mod c.args.size c.args.den c.gcd-common.result c.gcd-common.ensures,
  refl,
  c.from.ensures,
  c.from-2.ensures,
)
