use Rattle.frac128.specs.Value.{value}
use Rattle.frac128.specs.Line.{line}
use Rattle.std.proofs.Common.{refl}
use Rattle.rational.specs.Line.{at}
use Rattle.rational.specs.Extended.{finite}
use Rattle.rational.proofs.AffineLemmas.{finite_same, same_reflᵉ}
use Rattle.rational.proofs.Order.{same_trans}
use Rattle.rational.proofs.Lines.{at_constant}
use Rattle.value_laws.proofs.margin.MarginShape.fix.Goals as goal

pub returns-in-Ok-clause-value : goal.returns-in-Ok-clause-value
returns-in-Ok-clause-value c =
    rw c.in-Ramp.is (λ u. finite_same (same_trans (at_constant (value c.in-Ok.c) u) c.in-Ok.ensures.ok), refl)

pub returns-in-Err-clause-value : goal.returns-in-Err-clause-value
returns-in-Err-clause-value c =
    let x = at (line c.in-Ramp.f) (value c.args.t.now) in
    rw c.in-Ramp.is (x, same_reflᵉ (finite x), c.in-Err.ensures.wide.0, c.in-Err.ensures.wide.1)
