use Rattle.rational.proofs.Order.{same_trans, le_trans, le_of_same, ge_of_same}
use Rattle.rational.proofs.Field.{same_add, same_mul}
use Rattle.rational.proofs.Lines.{same_at}
use Rattle.rational.proofs.TimeLemmas.{same_times, IsIn-same}
use Rattle.rational.proofs.laws.pairs.Goals as goal

pub returns-clause-same_again : goal.returns-clause-same_again
returns-clause-same_again c = λ x y z h k. same_trans h k

pub returns-clause-order : goal.returns-clause-order
returns-clause-order c = λ w x y z h k j. le_trans (ge_of_same h) (le_trans j (le_of_same k))

pub returns-clause-sum : goal.returns-clause-sum
returns-clause-sum c = λ w x y z h k. same_add h k

pub returns-clause-product : goal.returns-clause-product
returns-clause-product c = λ w x y z h k. same_mul h k

pub returns-clause-value : goal.returns-clause-value
returns-clause-value c = λ f t u h. same_at f h

pub returns-clause-multiple : goal.returns-clause-multiple
returns-clause-multiple c = λ t u k h. same_times k h

pub returns-clause-interval : goal.returns-clause-interval
returns-clause-interval c = λ on t u e h. IsIn-same on e h
