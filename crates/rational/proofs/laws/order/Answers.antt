use Rattle.rational.proofs.Order.{le_trans, lt_of_lt_of_le, left_of_middle, right_of_middle}
use Rattle.rational.proofs.laws.order.Goals as goal

pub returns-clause-transitive : goal.returns-clause-transitive
returns-clause-transitive c = λ x y z h k. le_trans h k

pub returns-clause-strictly_transitive : goal.returns-clause-strictly_transitive
returns-clause-strictly_transitive c = λ x y z h k. lt_of_lt_of_le h k

pub returns-clause-dense : goal.returns-clause-dense
returns-clause-dense c = λ x y h. (left_of_middle h, right_of_middle h)
