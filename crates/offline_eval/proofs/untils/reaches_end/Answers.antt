use Rattle.std.proofs.Common.{◌^◌, sym, subst}
use Rattle.rational.specs.Rational.{IsWithin, ◌≤ʳ◌}
use Rattle.rational.specs.Time.{later}
use Rattle.frac128.specs.Value.{value}
use Rattle.offline_eval.proofs.untils.reaches_end.Goals as goal

pub is_within-requires : goal.is_within-requires
is_within-requires g c = subst (λ p. IsWithin (2 ^ 34) p.at) (sym c.from-begin.ensures) c.requires.limited.limited.begins

pub returns : goal.returns
returns g c = λ h.
    subst (λ p. p.at ≤ʳ later c.args.x.now.from.at c.args.high) c.until-end.ensures.value
    (subst (λ p. value c.until-end.result.time ≤ʳ later p.at c.args.high) c.from-begin.ensures (c.is_within.ensures h))
