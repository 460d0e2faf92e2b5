use Rattle.std.proofs.Common.{pos}
use Rattle.rational.specs.Rational.{whole}
use Rattle.rational.specs.Extended.{value_at}
use Rattle.rational.proofs.AffineLemmas.{order_sameᵉ, value_same}
use Rattle.frac128.specs.Value.{value}
use Rattle.value_laws.proofs.counted.Counted.cmp.Goals as goal

pub returns-clause-order : goal.returns-clause-order
returns-clause-order g c =
    let zero = whole (pos 0) in let t = value c.of.result in
    let p = g.P.Shape.function c.self.inside.shape in let q = g.P.Shape.function c.other.inside.shape in
    rw (← c.self.view_is, ← c.other.view_is)
    (order_sameᵉ c.cmp_at.result (value_at p t) (value_at p zero) (value_at q t) (value_at q zero)
    (value_same p c.of.ensures.value) (value_same q c.of.ensures.value) c.cmp_at.ensures)
