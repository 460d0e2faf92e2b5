use Rattle.std.proofs.Common.{◌≡◌, refl, pos, ◌*ℤ◌, ◌≤◌, ◌^◌, ◌∙◌, ap, arith, to_z, of_z, mul-le-mul}
use Rattle.std.specs.Int.RustNames.{unsigned_abs}
use Rattle.std.proofs.lemmas.Int.{ints}
use mir.Syntax.{w64, w128}
use Rattle.frac128.proofs.Carried.{carried, widened_small, as_small}
use Rattle.frac128.proofs.Fractions.{whole_of_within}
use Rattle.frac128.proofs.RampDifferences.{ConstantDifference, reaching, reaching_den}
use Rattle.frac128.proofs.ramp.Ramp.cross_whole.Goals.{After-offset}
use Rattle.frac128.proofs.ramp.Ramp.cross_whole.Goals as goal

-- the whole number, in 128 bits
whole : (c : After-offset) → to_z w128 (of_z w128 c.from.result) ≡ c.args.c.now.whole
whole c =
    let k = c.args.c.now in
    widened_small c.from.result k.whole (2 ^ 32) c.from.type_inv (c.from.ensures ∙ ap (λ z. to_z w64 (of_z w64 z)) c.whole.ensures)
    (whole_of_within (2 ^ 32) k c.requires.within) (omega arith)

-- the run
run : (c : After-offset) → to_z w128 (of_z w128 c.from-2.result) ≡ pos c.args.self.now.run
run c = carried c.from-2.result (pos c.args.self.now.run) c.from-2.type_inv c.from-2.ensures

-- the value at 0, times the run
offset : (c : After-offset) → to_z w128 (of_z w128 c.offset.result) ≡ c.offset.result
offset c = carried c.offset.result c.offset.result c.offset.type_inv refl

pub determinant-num-requires : goal.determinant-num-requires
determinant-num-requires c =
    let at = (goal.at.determinant-num-requires c).After-offset in
    let few : c.args.self.now.run ≤ 2 ^ 32 = omega arith in
    let n = as_small _ c.args.c.now.whole (2 ^ 32) (whole at) (whole_of_within (2 ^ 32) c.args.c.now c.requires.within) in
    let r = as_small _ (pos c.args.self.now.run) (2 ^ 32) (run at) few in
    let o = as_small _ c.offset.result (2 ^ 66) (offset at) c.offset.ensures.small in
    omega (arith, ints, mul-le-mul n r, o)

pub quotient-requires-clause-num : goal.quotient-requires-clause-num
quotient-requires-clause-num c =
    let at = (goal.at.quotient-requires-clause-num c).After-offset in
    let few : c.args.self.now.run ≤ 2 ^ 32 = omega arith in
    let n = as_small _ c.args.c.now.whole (2 ^ 32) (whole at) (whole_of_within (2 ^ 32) c.args.c.now c.requires.within) in
    let r = as_small _ (pos c.args.self.now.run) (2 ^ 32) (run at) few in
    let o = as_small _ c.offset.result (2 ^ 66) (offset at) c.offset.ensures.small in
    let num : unsigned_abs c.determinant-num.result ≤ 2 ^ 67 = omega (arith, ints, mul-le-mul n r, o, c.determinant-num.ensures.small) in
    let same = carried c.determinant-num.result c.determinant-num.result c.determinant-num.type_inv refl in
    omega (arith, as_small _ c.determinant-num.result (2 ^ 67) same num)

pub returns-clause-meets : goal.returns-clause-meets
returns-clause-meets c =
    let at = (goal.at.returns-clause-meets c).After-offset in
    let f = c.args.self.now in
    let k = c.args.c.now in
    let one : k.den ≡ 1 = c.requires.whole in
    let rise : to_z w128 (of_z w128 c.from-3.result) ≡ f.rise =
    widened_small c.from-3.result f.rise (2 ^ 31) c.from-3.type_inv c.from-3.ensures f.small_rise (omega arith) in
    let num : to_z w128 (of_z w128 c.determinant-num.result) ≡ c.determinant-num.result =
    carried c.determinant-num.result c.determinant-num.result c.determinant-num.type_inv refl in
    let is = rw (whole at, run at, offset at) at c.determinant-num.ensures.value in
    let r : ConstantDifference f k k.whole c.offset.result c.determinant-num.result f.rise = record {
      first = let l = k.below in omega (arith, ints, one, l, ap (λ n. k.whole *ℤ pos n) one);
      second = c.offset.ensures.value;
      num_is = omega (arith, ints, is, ap (λ n. c.offset.result *ℤ pos n) one);
      climb_is = omega (arith, ints, ap (λ n. f.rise *ℤ pos n) one);
    } in
    reaching f k _ _ _ _ _ r (simp (num, rise) at c.quotient.ensures)

pub returns-clause-den : goal.returns-clause-den
returns-clause-den c =
    let f = c.args.self.now in
    let k = c.args.c.now in
    let one : k.den ≡ 1 = c.requires.whole in
    let rise : to_z w128 (of_z w128 c.from-3.result) ≡ f.rise =
    widened_small c.from-3.result f.rise (2 ^ 31) c.from-3.type_inv c.from-3.ensures f.small_rise (omega arith) in
    let num : to_z w128 (of_z w128 c.determinant-num.result) ≡ c.determinant-num.result =
    carried c.determinant-num.result c.determinant-num.result c.determinant-num.type_inv refl in
    reaching_den f k c.determinant-num.result f.rise c.quotient.result (omega (arith, ints, ap (λ n. f.rise *ℤ pos n) one))
    (simp (num, rise) at c.quotient.ensures)
