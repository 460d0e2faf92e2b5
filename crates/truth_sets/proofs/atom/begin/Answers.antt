use Rattle.truth_sets.proofs.GrowingLemmas.{begun}
use Rattle.truth_sets.proofs.atom.begin.Goals as goal

pub returns : goal.returns
returns c = begun c.args.bound.now c.args.node c.args.trace.now c.standing-sum.result.0 c.constant.result c.standing-sum.result.1 c.requires.atom
    c.requires.some c.standing-sum.ensures.sum c.standing-sum.ensures.holds c.constant.ensures.turns c.constant.ensures.times c.constant.ensures.of
