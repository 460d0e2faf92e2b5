use Rattle.std.proofs.Common.{◌≡◌, refl, pos, ◌*ℤ◌, ◌-ℤ◌, ◌≤◌, ◌^◌, ◌∙◌, ◌+◌, ap, arith, to_z, of_z, mul-le-mul}
use Rattle.std.specs.Int.RustNames.{unsigned_abs}
use Rattle.std.proofs.lemmas.Int.{ints}
use mir.Syntax.{w128}
use Rattle.frac128.proofs.Carried.{carried, widened_small, as_small}
use Rattle.frac128.proofs.Fractions.{whole_of_within}
use Rattle.frac128.proofs.RampDifferences.{ConstantDifference, reaching, reaching_den}
use Rattle.frac128.proofs.ramp.Ramp.cross_const.Goals as goal

pub determinant-num-requires : goal.determinant-num-requires
determinant-num-requires c =
    let f = c.args.self.now in
    let k = c.args.c.now in
    let small : k.den ≤ 2 ^ 60 = omega (arith, k.small) in
    let product = mul-le-mul (whole_of_within (2 ^ 32) k c.requires) small in
    let few : f.run ≤ 2 ^ 32 = omega arith in
    let size : unsigned_abs c.top.result ≤ 2 ^ 93 = omega (arith, product, c.top.ensures.small, k.small, k.below) in
    let top = as_small _ c.top.result (2 ^ 93) (carried c.top.result c.top.result c.top.type_inv refl) size in
    let run = as_small _ (pos f.run) (2 ^ 32) (carried c.from.result (pos f.run) c.from.type_inv c.from.ensures) few in
    let offset = as_small _ c.offset.result (2 ^ 66) (carried c.offset.result c.offset.result c.offset.type_inv refl) c.offset.ensures.small in
    let den = as_small _ (pos k.den) (2 ^ 60) (carried c.from-den.result (pos k.den) c.from-den.type_inv (c.from-den.ensures ∙ ap pos c.den-2.ensures)) small in
    omega (arith, mul-le-mul top run, mul-le-mul offset den)

pub determinant-climb-requires : goal.determinant-climb-requires
determinant-climb-requires c =
    let f = c.args.self.now in
    let k = c.args.c.now in
    let small : k.den ≤ 2 ^ 60 = omega (arith, k.small) in
    let rise =
    as_small _ f.rise (2 ^ 31) (widened_small c.from-2.result f.rise (2 ^ 31) c.from-2.type_inv c.from-2.ensures f.small_rise (omega arith)) f.small_rise in
    let den = as_small _ (pos k.den) (2 ^ 60) (carried c.from-den.result (pos k.den) c.from-den.type_inv (c.from-den.ensures ∙ ap pos c.den-2.ensures)) small in
    omega (arith, mul-le-mul rise den)

pub quotient-requires-clause-num : goal.quotient-requires-clause-num
quotient-requires-clause-num c =
    let f = c.args.self.now in
    let k = c.args.c.now in
    let small : k.den ≤ 2 ^ 60 = omega (arith, k.small) in
    let product = mul-le-mul (whole_of_within (2 ^ 32) k c.requires) small in
    let few : f.run ≤ 2 ^ 32 = omega arith in
    let size : unsigned_abs c.top.result ≤ 2 ^ 93 = omega (arith, product, c.top.ensures.small, k.small, k.below) in
    let top = as_small _ c.top.result (2 ^ 93) (carried c.top.result c.top.result c.top.type_inv refl) size in
    let run = as_small _ (pos f.run) (2 ^ 32) (carried c.from.result (pos f.run) c.from.type_inv c.from.ensures) few in
    let offset = as_small _ c.offset.result (2 ^ 66) (carried c.offset.result c.offset.result c.offset.type_inv refl) c.offset.ensures.small in
    let den = as_small _ (pos k.den) (2 ^ 60) (carried c.from-den.result (pos k.den) c.from-den.type_inv (c.from-den.ensures ∙ ap pos c.den-2.ensures)) small in
    let num : unsigned_abs c.determinant-num.result ≤ 2 ^ 126 + 2 ^ 125 =
    omega (arith, mul-le-mul top run, mul-le-mul offset den, c.determinant-num.ensures.small) in
    let same = carried c.determinant-num.result c.determinant-num.result c.determinant-num.type_inv refl in
    omega (arith, as_small _ c.determinant-num.result (2 ^ 126 + 2 ^ 125) same num)

pub quotient-requires-clause-den : goal.quotient-requires-clause-den
quotient-requires-clause-den c =
    let f = c.args.self.now in
    let k = c.args.c.now in
    let small : k.den ≤ 2 ^ 60 = omega (arith, k.small) in
    let rise =
    as_small _ f.rise (2 ^ 31) (widened_small c.from-2.result f.rise (2 ^ 31) c.from-2.type_inv c.from-2.ensures f.small_rise (omega arith)) f.small_rise in
    let den = as_small _ (pos k.den) (2 ^ 60) (carried c.from-den.result (pos k.den) c.from-den.type_inv (c.from-den.ensures ∙ ap pos c.den-2.ensures)) small in
    let climb : unsigned_abs c.determinant-climb.result ≤ 2 ^ 91 = omega (arith, mul-le-mul rise den, c.determinant-climb.ensures.small) in
    let same = carried c.determinant-climb.result c.determinant-climb.result c.determinant-climb.type_inv refl in
    omega (arith, as_small _ c.determinant-climb.result (2 ^ 91) same climb)

pub returns-clause-meets : goal.returns-clause-meets
returns-clause-meets c =
    let f = c.args.self.now in
    let k = c.args.c.now in
    let rise : to_z w128 (of_z w128 c.from-2.result) ≡ f.rise =
    widened_small c.from-2.result f.rise (2 ^ 31) c.from-2.type_inv c.from-2.ensures f.small_rise (omega arith) in
    let den : to_z w128 (of_z w128 c.from-den.result) ≡ pos k.den =
    carried c.from-den.result (pos k.den) c.from-den.type_inv (c.from-den.ensures ∙ ap pos c.den-2.ensures) in
    let run : to_z w128 (of_z w128 c.from.result) ≡ pos f.run = carried c.from.result (pos f.run) c.from.type_inv c.from.ensures in
    let top : to_z w128 (of_z w128 c.top.result) ≡ c.top.result = carried c.top.result c.top.result c.top.type_inv refl in
    let offset : to_z w128 (of_z w128 c.offset.result) ≡ c.offset.result = carried c.offset.result c.offset.result c.offset.type_inv refl in
    let num : to_z w128 (of_z w128 c.determinant-num.result) ≡ c.determinant-num.result =
    carried c.determinant-num.result c.determinant-num.result c.determinant-num.type_inv refl in
    let climb : to_z w128 (of_z w128 c.determinant-climb.result) ≡ c.determinant-climb.result =
    carried c.determinant-climb.result c.determinant-climb.result c.determinant-climb.type_inv refl in
    let climb_is : c.determinant-climb.result ≡ f.rise *ℤ pos k.den -ℤ pos 0 = rw (rise, den) at c.determinant-climb.ensures.value in
    let r : ConstantDifference f k c.top.result c.offset.result c.determinant-num.result c.determinant-climb.result = record {
      first = omega (arith, ints, c.top.ensures.value);
      second = c.offset.ensures.value;
      num_is = rw (top, run, offset, den) at c.determinant-num.ensures.value;
      climb_is = omega (arith, ints, climb_is);
    } in
    reaching f k _ _ _ _ _ r (simp (num, climb) at c.quotient.ensures)

pub returns-clause-den : goal.returns-clause-den
returns-clause-den c =
    let f = c.args.self.now in
    let k = c.args.c.now in
    let rise : to_z w128 (of_z w128 c.from-2.result) ≡ f.rise =
    widened_small c.from-2.result f.rise (2 ^ 31) c.from-2.type_inv c.from-2.ensures f.small_rise (omega arith) in
    let den : to_z w128 (of_z w128 c.from-den.result) ≡ pos k.den =
    carried c.from-den.result (pos k.den) c.from-den.type_inv (c.from-den.ensures ∙ ap pos c.den-2.ensures) in
    let num : to_z w128 (of_z w128 c.determinant-num.result) ≡ c.determinant-num.result =
    carried c.determinant-num.result c.determinant-num.result c.determinant-num.type_inv refl in
    let climb : to_z w128 (of_z w128 c.determinant-climb.result) ≡ c.determinant-climb.result =
    carried c.determinant-climb.result c.determinant-climb.result c.determinant-climb.type_inv refl in
    let climb_is : c.determinant-climb.result ≡ f.rise *ℤ pos k.den -ℤ pos 0 = rw (rise, den) at c.determinant-climb.ensures.value in
    reaching_den f k c.determinant-num.result c.determinant-climb.result c.quotient.result (omega (arith, ints, climb_is))
    (simp (num, climb) at c.quotient.ensures)
