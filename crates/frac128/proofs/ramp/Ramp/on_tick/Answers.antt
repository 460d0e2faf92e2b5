use Rattle.std.proofs.Common.{to_z-of_z, refl, pos, ◌≤◌, ◌^◌, arith, mul-le-mul}
use Rattle.frac128.proofs.Carried.{carried, widened_small, as_small}
use Rattle.frac128.proofs.ramp.Ramp.on_tick.Goals as goal

pub sum_of_products-requires : goal.sum_of_products-requires
sum_of_products-requires c =
    let f = c.args.self.now in
    let few : f.run ≤ 2 ^ 32 = omega arith in
    let v = as_small _ f.v0 (2 ^ 31) (widened_small c.from.result f.v0 (2 ^ 31) c.from.type_inv c.from.ensures f.small_v0 (omega arith)) f.small_v0 in
    let run = as_small _ (pos f.run) (2 ^ 32) (carried c.from-2.result (pos f.run) c.from-2.type_inv c.from-2.ensures) few in
    let rise =
    as_small _ f.rise (2 ^ 31) (widened_small c.from-3.result f.rise (2 ^ 31) c.from-3.type_inv c.from-3.ensures f.small_rise (omega arith)) f.small_rise in
    let gap = as_small _ c.args.gap (2 ^ 35) (to_z-of_z c.ranges.gap) c.requires in
    omega (arith, mul-le-mul v run, mul-le-mul rise gap)

pub returns-clause-small_num : goal.returns-clause-small_num
returns-clause-small_num c =
    let f = c.args.self.now in
    let few : f.run ≤ 2 ^ 32 = omega arith in
    let v = as_small _ f.v0 (2 ^ 31) (widened_small c.from.result f.v0 (2 ^ 31) c.from.type_inv c.from.ensures f.small_v0 (omega arith)) f.small_v0 in
    let run = as_small _ (pos f.run) (2 ^ 32) (carried c.from-2.result (pos f.run) c.from-2.type_inv c.from-2.ensures) few in
    let rise =
    as_small _ f.rise (2 ^ 31) (widened_small c.from-3.result f.rise (2 ^ 31) c.from-3.type_inv c.from-3.ensures f.small_rise (omega arith)) f.small_rise in
    let gap = as_small _ c.args.gap (2 ^ 35) (to_z-of_z c.ranges.gap) c.requires in
    let num = carried c.sum_of_products.result c.sum_of_products.result c.sum_of_products.type_inv refl in
    as_small _ c.sum_of_products.result (2 ^ 67) num (omega (arith, mul-le-mul v run, mul-le-mul rise gap, c.sum_of_products.ensures.small))
