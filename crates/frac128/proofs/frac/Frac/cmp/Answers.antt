use Rattle.std.proofs.Common.{◌≡◌, ◌*◌, ◌∙◌, sym}
use Rattle.std.specs.Ordering.{nat_cmp}
use Rattle.rational.proofs.Mixed.{order_by_rest, order_by_whole}
use Rattle.frac128.proofs.frac.Frac.cmp.Goals as goal

pub returns-in-Equal : goal.returns-in-Equal
returns-in-Equal c =
    let f = c.args.self.now in
    let g = c.args.other.now in
    let order : c.cmp-in-Equal.result ≡ nat_cmp (f.rest * g.den) (g.rest * f.den) = cc in
    order_by_rest _ f.whole g.whole f.rest f.den g.rest g.den f.positive g.positive (sym c.cmp.ensures ∙ c.in-Equal.is) order

pub returns-in_default : goal.returns-in_default
returns-in_default c =
    let f = c.args.self.now in
    let g = c.args.other.now in
    order_by_whole _ f.whole g.whole f.positive g.positive c.cmp.ensures c.in_default.not-Equal f.below g.below
