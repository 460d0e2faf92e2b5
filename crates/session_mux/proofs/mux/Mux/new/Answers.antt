use Rattle.std.proofs.Common.{refl, [], arith}
use Rattle.session_mux.proofs.mux.Mux.new.Goals as goal

pub invariant_of-result : goal.invariant_of-result
invariant_of-result c = (
  omega (arith, c.new.ensures.none),
  λ e. (record { formula = c.args.formula; seen = [] }, record { phase = refl; knows = c.new.ensures.knows }),
)
