use Rattle.std.proofs.Common.{refl}
use Rattle.implicants.proofs.NodeCounts.{one_count, one_too_many, too_many_is_more}
use Rattle.implicants.proofs.laws.count_is_one.Goals as goal

pub returns-clause-count : goal.returns-clause-count
returns-clause-count c = λ nodes tr place n m a b. one_count nodes tr place place n m refl a b

pub returns-clause-passed : goal.returns-clause-passed
returns-clause-passed c = λ nodes tr limit n m a b. one_too_many nodes tr limit n m a b

pub returns-clause-more : goal.returns-clause-more
returns-clause-more c = λ nodes tr limit count n t k. too_many_is_more nodes tr limit count n t k
