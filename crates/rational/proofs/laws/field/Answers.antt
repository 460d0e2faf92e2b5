use Rattle.rational.proofs.Field.{inverse, le_add, lt_mul}
use Rattle.rational.proofs.laws.field.Goals as goal

pub returns-clause-inverse : goal.returns-clause-inverse
returns-clause-inverse c = inverse

pub returns-clause-sums_in_order : goal.returns-clause-sums_in_order
returns-clause-sums_in_order c = λ w x y z h k. le_add h k

pub returns-clause-products_in_order : goal.returns-clause-products_in_order
returns-clause-products_in_order c = λ x y z p h. lt_mul z p h
