use Rattle.std.proofs.Common.{◌≡◌, rules, to_z, of_z, to_z-of_z}
use mir.Syntax.{w128}
use Rattle.frac128.proofs.ratio.Ratio.cmp.Goals as goal

pub returns : goal.returns
returns c =
    let p = c.args.self.now in
    let q = c.args.other.now in
    let num : to_z w128 (of_z w128 p.num) ≡ p.num = search (rules, to_z-of_z) in
    let den : to_z w128 (of_z w128 p.den) ≡ p.den = search (rules, to_z-of_z) in
    let other_num : to_z w128 (of_z w128 q.num) ≡ q.num = search (rules, to_z-of_z) in
    let other_den : to_z w128 (of_z w128 q.den) ≡ q.den = search (rules, to_z-of_z) in
    rw (num, den, other_num, other_den) at c.cmp_ratio.ensures
