use Rattle.early_verdict.proofs.Places.{item_at}
use Rattle.early_verdict.proofs.operators.at.Goals as goal

pub returns-clause-at : goal.returns-clause-at
returns-clause-at c = item_at c.args.below.now c.args.place c.index-below-place.result c.requires.within c.index-below-place.is

pub returns-clause-tidy : goal.returns-clause-tidy
returns-clause-tidy c = c.requires.tidy c.args.place c.index-below-place.result
    (item_at c.args.below.now c.args.place c.index-below-place.result c.requires.within c.index-below-place.is)
