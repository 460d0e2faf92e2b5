use Rattle.std.proofs.Common.{rules, to_z-of_z}
use Rattle.frac128.proofs.Ahead.{all_fit, product_positive}
use Rattle.frac128.proofs.ramp.value_ahead.Goals as goal

pub overflow_mul-result-2 : goal.overflow_mul-result-2
overflow_mul-result-2 c = let f = all_fit c.requires in search (rules, to_z-of_z)

pub overflow_mul-result-3 : goal.overflow_mul-result-3
overflow_mul-result-3 c = let f = all_fit c.requires in search (rules, to_z-of_z)

pub overflow_add-result : goal.overflow_add-result
overflow_add-result c = let f = all_fit c.requires in search (rules, to_z-of_z)

pub overflow_mul-result-4 : goal.overflow_mul-result-4
overflow_mul-result-4 c = let f = all_fit c.requires in search (rules, to_z-of_z)

pub overflow_add-result-2 : goal.overflow_add-result-2
overflow_add-result-2 c = let f = all_fit c.requires in search (rules, to_z-of_z)

pub overflow_mul-result-5 : goal.overflow_mul-result-5
overflow_mul-result-5 c = let f = all_fit c.requires in search (rules, to_z-of_z)

pub returns-clause-num : goal.returns-clause-num
returns-clause-num c = let f = all_fit c.requires in search (rules, to_z-of_z)

pub invariant_of-result : goal.invariant_of-result
invariant_of-result c = let f = all_fit c.requires in search (rules, to_z-of_z, product_positive)
