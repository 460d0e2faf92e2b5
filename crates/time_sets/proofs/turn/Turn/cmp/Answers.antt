use Rattle.std.proofs.Common.{◌≡◌, inl, inr, ◌*◌, ◌∙◌, sym, ap, ℕ}
use Rattle.std.specs.Ordering.{nat_cmp}
use Rattle.time_sets.proofs.TurnLemmas.{order_by_twice, order_by_rests}
use Rattle.time_sets.proofs.turn.Turn.cmp.Goals as goal

products : (r d s e r' d' s' e' : ℕ) → r' ≡ r → e' ≡ e → s' ≡ s → d' ≡ d → (r' * e' ≡ r * e) × (s' * d' ≡ s * d)
products r d s e r' d' s' e' p q i j = (ap (λ x. x * e') p ∙ ap (λ x. r * x) q, ap (λ x. x * d') i ∙ ap (λ x. s * x) j)

pub returns-then-not-is_level : goal.returns-then-not-is_level
returns-then-not-is_level c =
    let f = c.args.self.now in
    let g = c.args.other.now in
    order_by_twice _ f.twice g.twice f.rest f.den g.rest g.den f.positive g.positive f.below g.below
    (inl (λ e. let t = c.is_level.ensures.1 e in let f = c.if-not-is_level.true in cc)) c.cmp.ensures

pub returns-then-left-right : goal.returns-then-left-right
returns-then-left-right c =
    let f = c.args.self.now in
    let g = c.args.other.now in
    let same = products f.rest f.den g.rest g.den c.from.result c.from-4.result c.from-3.result c.from-2.result
    c.from.ensures c.from-2.ensures c.from-3.ensures c.from-4.ensures in
    order_by_rests _ f.twice g.twice f.rest f.den g.rest g.den f.positive g.positive
    (c.is_level.ensures.0 c.if-not-is_level.false)
    (λ e. c.if-left-right.true (same.0 ∙ e ∙ sym same.1))
    (c.cmp-then-left-right.ensures ∙ ap (λ x. nat_cmp x (c.from-3.result * c.from-4.result)) same.0 ∙ ap (λ x. nat_cmp (f.rest * g.den) x) same.1)

pub returns : goal.returns
returns c =
    let f = c.args.self.now in
    let g = c.args.other.now in
    let same = products f.rest f.den g.rest g.den c.from.result c.from-4.result c.from-3.result c.from-2.result
    c.from.ensures c.from-2.ensures c.from-3.ensures c.from-4.ensures in
    order_by_twice _ f.twice g.twice f.rest f.den g.rest g.den f.positive g.positive f.below g.below
    (inr (sym same.0 ∙ c.if-left-right.false ∙ same.1)) c.cmp-2.ensures
