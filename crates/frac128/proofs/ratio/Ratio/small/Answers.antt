use Rattle.std.proofs.Common.{◌≡◌, ◌^◌, ◌<◌, lit<, rules, subst, to_z, of_z, to_z-of_z, w64}
use mir.Syntax.{w128}
use Rattle.rational.proofs.Mixed.{fits_of_within}
use Rattle.frac128.proofs.Ratios.{near_within}
use Rattle.frac128.proofs.ratio.Ratio.small.Goals as goal

pub frac-requires : goal.frac-requires
frac-requires c =
    let q = c.args.self.now in
    let num : to_z w128 (of_z w128 q.num) ≡ q.num = search (rules, to_z-of_z) in
    fits_of_within w64 (2 ^ 62) (lit< tt)
    (near_within q.num q.den q.positive (subst (λ n. n < 2 ^ 62) (rw num at c.unsigned_abs.ensures.value) c.if-unsigned_abs.false))
