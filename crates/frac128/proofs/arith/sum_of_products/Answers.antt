use Rattle.std.proofs.Common.{rules, to_z-of_z}
use Rattle.frac128.proofs.Ahead.{parts_fit}
use Rattle.frac128.proofs.arith.sum_of_products.Goals as goal

pub overflow_mul-result : goal.overflow_mul-result
overflow_mul-result c = let f = parts_fit c.args.a c.args.b c.args.c c.args.d c.requires in search (rules, to_z-of_z)

pub overflow_mul-result-2 : goal.overflow_mul-result-2
overflow_mul-result-2 c = let f = parts_fit c.args.a c.args.b c.args.c c.args.d c.requires in search (rules, to_z-of_z)

pub overflow_add-result : goal.overflow_add-result
overflow_add-result c = let f = parts_fit c.args.a c.args.b c.args.c c.args.d c.requires in search (rules, to_z-of_z)

pub returns-clause-value : goal.returns-clause-value
returns-clause-value c = let f = parts_fit c.args.a c.args.b c.args.c c.args.d c.requires in search (rules, to_z-of_z)

pub returns-clause-small : goal.returns-clause-small
returns-clause-small c = let f = parts_fit c.args.a c.args.b c.args.c c.args.d c.requires in search (rules, to_z-of_z)
