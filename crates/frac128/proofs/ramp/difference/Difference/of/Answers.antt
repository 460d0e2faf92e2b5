use Rattle.std.proofs.Common.{refl, ◌≡◌, pos, ◌≤◌, ◌^◌, arith, to_z, of_z, mul-le-mul}
use mir.Syntax.{w128}
use Rattle.frac128.proofs.Carried.{carried, widened_small, as_small}
use Rattle.frac128.proofs.RampDifferences.{RampDifference, gap_of_ramps}
use Rattle.frac128.proofs.ramp.difference.Difference.of.Goals as goal

pub determinant-requires : goal.determinant-requires
determinant-requires c =
    let f = c.args.upper.now in
    let g = c.args.lower.now in
    let few : f.run ≤ 2 ^ 32 = omega arith in
    let other_few : g.run ≤ 2 ^ 32 = omega arith in
    let run = as_small _ (pos f.run) (2 ^ 32) (carried c.from-run.result (pos f.run) c.from-run.type_inv c.from-run.ensures) few in
    let other_run =
    as_small _ (pos g.run) (2 ^ 32) (carried c.from-other_run.result (pos g.run) c.from-other_run.type_inv c.from-other_run.ensures) other_few in
    let a = as_small _ c.offset.result (2 ^ 66) (carried c.offset.result c.offset.result c.offset.type_inv refl) c.offset.ensures.small in
    let b = as_small _ c.offset-2.result (2 ^ 66) (carried c.offset-2.result c.offset-2.result c.offset-2.type_inv refl) c.offset-2.ensures.small in
    omega (arith, mul-le-mul a other_run, mul-le-mul b run)

pub determinant-requires-2 : goal.determinant-requires-2
determinant-requires-2 c =
    let f = c.args.upper.now in
    let g = c.args.lower.now in
    let few : f.run ≤ 2 ^ 32 = omega arith in
    let other_few : g.run ≤ 2 ^ 32 = omega arith in
    let run = as_small _ (pos f.run) (2 ^ 32) (carried c.from-run.result (pos f.run) c.from-run.type_inv c.from-run.ensures) few in
    let other_run =
    as_small _ (pos g.run) (2 ^ 32) (carried c.from-other_run.result (pos g.run) c.from-other_run.type_inv c.from-other_run.ensures) other_few in
    let rise =
    as_small _ f.rise (2 ^ 31) (widened_small c.from.result f.rise (2 ^ 31) c.from.type_inv c.from.ensures f.small_rise (omega arith)) f.small_rise in
    let other_rise =
    as_small _ g.rise (2 ^ 31) (widened_small c.from-2.result g.rise (2 ^ 31) c.from-2.type_inv c.from-2.ensures g.small_rise (omega arith)) g.small_rise in
    omega (arith, mul-le-mul rise other_run, mul-le-mul other_rise run)

pub invariant_of-result : goal.invariant_of-result
invariant_of-result c =
    let f = c.args.upper.now in
    let g = c.args.lower.now in
    let few : f.run ≤ 2 ^ 32 = omega arith in
    let other_few : g.run ≤ 2 ^ 32 = omega arith in
    let run = as_small _ (pos f.run) (2 ^ 32) (carried c.from-run.result (pos f.run) c.from-run.type_inv c.from-run.ensures) few in
    let other_run =
    as_small _ (pos g.run) (2 ^ 32) (carried c.from-other_run.result (pos g.run) c.from-other_run.type_inv c.from-other_run.ensures) other_few in
    let a = as_small _ c.offset.result (2 ^ 66) (carried c.offset.result c.offset.result c.offset.type_inv refl) c.offset.ensures.small in
    let b = as_small _ c.offset-2.result (2 ^ 66) (carried c.offset-2.result c.offset-2.result c.offset-2.type_inv refl) c.offset-2.ensures.small in
    let rise =
    as_small _ f.rise (2 ^ 31) (widened_small c.from.result f.rise (2 ^ 31) c.from.type_inv c.from.ensures f.small_rise (omega arith)) f.small_rise in
    let other_rise =
    as_small _ g.rise (2 ^ 31) (widened_small c.from-2.result g.rise (2 ^ 31) c.from-2.type_inv c.from-2.ensures g.small_rise (omega arith)) g.small_rise in
    let base = carried c.determinant.result c.determinant.result c.determinant.type_inv refl in
    let climb = carried c.determinant-2.result c.determinant-2.result c.determinant-2.type_inv refl in
    record {
      small_base = as_small _ c.determinant.result (2 ^ 99) base (omega (arith, mul-le-mul a other_run, mul-le-mul b run, c.determinant.ensures.small));
      small_climb = as_small _ c.determinant-2.result (2 ^ 64) climb
          (omega (arith, mul-le-mul rise other_run, mul-le-mul other_rise run, c.determinant-2.ensures.small));
    }

pub returns : goal.returns
returns c =
    let f = c.args.upper.now in
    let g = c.args.lower.now in
    let run : to_z w128 (of_z w128 c.from-run.result) ≡ pos f.run = carried c.from-run.result (pos f.run) c.from-run.type_inv c.from-run.ensures in
    let other_run : to_z w128 (of_z w128 c.from-other_run.result) ≡ pos g.run =
    carried c.from-other_run.result (pos g.run) c.from-other_run.type_inv c.from-other_run.ensures in
    let rise : to_z w128 (of_z w128 c.from.result) ≡ f.rise =
    widened_small c.from.result f.rise (2 ^ 31) c.from.type_inv c.from.ensures f.small_rise (omega arith) in
    let other_rise : to_z w128 (of_z w128 c.from-2.result) ≡ g.rise =
    widened_small c.from-2.result g.rise (2 ^ 31) c.from-2.type_inv c.from-2.ensures g.small_rise (omega arith) in
    let offset : to_z w128 (of_z w128 c.offset.result) ≡ c.offset.result = carried c.offset.result c.offset.result c.offset.type_inv refl in
    let other_offset : to_z w128 (of_z w128 c.offset-2.result) ≡ c.offset-2.result = carried c.offset-2.result c.offset-2.result c.offset-2.type_inv refl in
    let base : to_z w128 (of_z w128 c.determinant.result) ≡ c.determinant.result =
    carried c.determinant.result c.determinant.result c.determinant.type_inv refl in
    let climb : to_z w128 (of_z w128 c.determinant-2.result) ≡ c.determinant-2.result =
    carried c.determinant-2.result c.determinant-2.result c.determinant-2.type_inv refl in
    let r : RampDifference f g c.offset.result c.offset-2.result c.determinant.result c.determinant-2.result = record {
      first = c.offset.ensures.value;
      second = c.offset-2.ensures.value;
      base_is = rw (offset, run, other_offset, other_run) at c.determinant.ensures.value;
      climb_is = rw (rise, other_run, other_rise, run) at c.determinant-2.ensures.value;
    } in
    rw (base, climb) (gap_of_ramps f g _ _ _ _ r)
