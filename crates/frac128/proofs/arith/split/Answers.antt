use Rattle.std.proofs.Common.{rules, to_z-of_z}
use Rattle.rational.proofs.Mixed.{split_sum}
use Rattle.frac128.proofs.arith.split.Goals as goal

pub returns-clause-sum : goal.returns-clause-sum
returns-clause-sum c =
    split_sum c.args.num c.args.den _ c.rem_euclid.result _ c.requires (search (rules, to_z-of_z)) (search (rules, to_z-of_z)) (search (rules, to_z-of_z))
