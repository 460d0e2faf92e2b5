-- A product of two bounded numbers.
use Rattle.std.proofs.Common.{arith}
use Rattle.std.proofs.Math.Nat.{mul-le-mul_left}
use Rattle.stl_grammar.proofs.ticks.product.Goals as goal

pub overflow_mul-result : goal.overflow_mul-result
overflow_mul-result c = omega (arith, mul-le-mul_left c.from.result c.requires, c.from.ensures, c.ranges.value.fits)

pub returns-clause-small : goal.returns-clause-small
returns-clause-small c = omega (arith, mul-le-mul_left c.from.result c.requires, c.from.ensures, c.ranges.value.fits)
