use Rattle.std.proofs.Common.{◌∙◌, arith}
use Rattle.stl_syntax.proofs.DecimalLemmas.{without_zeros-less}
use Rattle.stl_syntax.proofs.decimals.put_decimals.Goals as goal

pub loop-places-preserved : goal.loop-places-preserved
loop-places-preserved c = without_zeros-less c.loop-places.places c.loop-places.decimals (omega arith) (omega arith) ∙ c.loop-places.invariant
