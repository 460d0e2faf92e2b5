use Rattle.std.proofs.Common.{refl, ◌≡◌, pos, arith, to_z, of_z, rules, to_z-of_z}
use Rattle.std.proofs.lemmas.Int.{ints}
use mir.Syntax.{w128}
use Rattle.rational.proofs.Order.{same_refl, same_sym}
use Rattle.rational.proofs.Compare.{order_same}
use Rattle.frac128.proofs.Ratios.{top_value}
use Rattle.frac128.proofs.ratio.Ratio.cmp_frac.Goals as goal

pub returns : goal.returns
returns c =
    let f = c.args.other.now in
    let num : to_z w128 (of_z w128 c.args.self.now.num) ≡ c.args.self.now.num = search (rules, to_z-of_z) in
    let den : to_z w128 (of_z w128 c.args.self.now.den) ≡ c.args.self.now.den = search (rules, to_z-of_z) in
    let top : to_z w128 (of_z w128 c.top.result) ≡ c.top.result = search (rules, to_z-of_z) in
    let under : to_z w128 (of_z w128 c.from.result) ≡ pos f.den = omega (arith, ints) in
    order_same c.cmp_ratio.result (same_refl _) (same_sym (top_value f c.top.result (pos f.den) c.top.ensures.value refl))
    (rw (num, den, top, under) at c.cmp_ratio.ensures)
