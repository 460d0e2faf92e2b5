use Rattle.std.proofs.Common.{◌∙◌, ap, sym}
use Rattle.early_verdict.specs.declared.sets.Sets.{Sets}
use Rattle.early_verdict.proofs.Places.{item_at}
use Rattle.early_verdict.proofs.letting.bounds_at.Goals as goal

pub returns : goal.returns
returns c = (
  c.index-sets-at.result,
  item_at c.args.sets.now c.args.at c.index-sets-at.result c.requires c.index-sets-at.is,
  c.bounds.ensures ∙ ap (λ (z : Sets). z.no.bounds) (sym c.index-sets-at.is),
)
