use Rattle.std.proofs.Common.{◌≡◌, rules, to_z, of_z, to_z-of_z}
use mir.Syntax.{w128}
use Rattle.frac128.proofs.ratio.Ratio.frac.Goals as goal

pub returns-clause-wide : goal.returns-clause-wide
returns-clause-wide c =
    let num : to_z w128 (of_z w128 c.args.self.now.num) ≡ c.args.self.now.num = search (rules, to_z-of_z) in
    let den : to_z w128 (of_z w128 c.args.self.now.den) ≡ c.args.self.now.den = search (rules, to_z-of_z) in
    simp (num, den) at c.make.ensures.wide
