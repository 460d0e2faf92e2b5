use Rattle.std.proofs.Common.{refl, pos, ◌≤◌, ◌^◌, arith, mul-le-mul}
use Rattle.frac128.proofs.Carried.{carried, widened_small, as_small}
use Rattle.frac128.proofs.ramp.Ramp.offset.Goals as goal

pub determinant-requires : goal.determinant-requires
determinant-requires c =
    let f = c.args.self.now in
    let few : f.run ≤ 2 ^ 32 = omega arith in
    let v = as_small _ f.v0 (2 ^ 31) (widened_small c.from.result f.v0 (2 ^ 31) c.from.type_inv c.from.ensures f.small_v0 (omega arith)) f.small_v0 in
    let run = as_small _ (pos f.run) (2 ^ 32) (carried c.from-2.result (pos f.run) c.from-2.type_inv c.from-2.ensures) few in
    let rise =
    as_small _ f.rise (2 ^ 31) (widened_small c.from-3.result f.rise (2 ^ 31) c.from-3.type_inv c.from-3.ensures f.small_rise (omega arith)) f.small_rise in
    let t = as_small _ f.t0 (2 ^ 34) (widened_small c.from-4.result f.t0 (2 ^ 34) c.from-4.type_inv c.from-4.ensures f.small_t0 (omega arith)) f.small_t0 in
    omega (arith, mul-le-mul v run, mul-le-mul rise t)

pub returns-clause-value : goal.returns-clause-value
returns-clause-value c =
    let f = c.args.self.now in
    let v = widened_small c.from.result f.v0 (2 ^ 31) c.from.type_inv c.from.ensures f.small_v0 (omega arith) in
    let run = carried c.from-2.result (pos f.run) c.from-2.type_inv c.from-2.ensures in
    let rise = widened_small c.from-3.result f.rise (2 ^ 31) c.from-3.type_inv c.from-3.ensures f.small_rise (omega arith) in
    let t = widened_small c.from-4.result f.t0 (2 ^ 34) c.from-4.type_inv c.from-4.ensures f.small_t0 (omega arith) in
    carried c.determinant.result _ c.determinant.type_inv (rw (v, run, rise, t) at c.determinant.ensures.value)

pub returns-clause-small : goal.returns-clause-small
returns-clause-small c =
    let f = c.args.self.now in
    let few : f.run ≤ 2 ^ 32 = omega arith in
    let v = as_small _ f.v0 (2 ^ 31) (widened_small c.from.result f.v0 (2 ^ 31) c.from.type_inv c.from.ensures f.small_v0 (omega arith)) f.small_v0 in
    let run = as_small _ (pos f.run) (2 ^ 32) (carried c.from-2.result (pos f.run) c.from-2.type_inv c.from-2.ensures) few in
    let rise =
    as_small _ f.rise (2 ^ 31) (widened_small c.from-3.result f.rise (2 ^ 31) c.from-3.type_inv c.from-3.ensures f.small_rise (omega arith)) f.small_rise in
    let t = as_small _ f.t0 (2 ^ 34) (widened_small c.from-4.result f.t0 (2 ^ 34) c.from-4.type_inv c.from-4.ensures f.small_t0 (omega arith)) f.small_t0 in
    let same = carried c.determinant.result c.determinant.result c.determinant.type_inv refl in
    as_small _ c.determinant.result (2 ^ 66) same (omega (arith, mul-le-mul v run, mul-le-mul rise t, c.determinant.ensures.small))
