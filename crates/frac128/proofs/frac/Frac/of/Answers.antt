use Rattle.std.proofs.Common.{pos}
use Rattle.rational.proofs.Lowest.{lowest_whole}
use Rattle.frac128.proofs.frac.Frac.of.Goals as goal

pub invariant_of-result-clause-lowest : goal.invariant_of-result-clause-lowest
invariant_of-result-clause-lowest c = lowest_whole (pos 0)
