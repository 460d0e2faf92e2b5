use Rattle.std.proofs.Common.{◌≡◌, to_z-of_z, pos, ◌≤◌, ◌^◌, arith, to_z, of_z, mul-le-mul}
use Rattle.std.specs.Int.RustNames.{unsigned_abs}
use Rattle.std.proofs.lemmas.Int.{ints}
use mir.Syntax.{w128}
use Rattle.frac128.proofs.Carried.{carried, as_small}
use Rattle.frac128.proofs.ramp.difference.sign_ahead.Goals as goal

pub sum_of_products-sum-requires : goal.sum_of_products-sum-requires
sum_of_products-sum-requires c =
    let near : unsigned_abs (to_z w128 (of_z w128 c.from.result)) ≤ 2 ^ 63 = omega (arith, ints, c.from.ensures) in
    let den = as_small _ (pos c.args.den) (2 ^ 60) (carried c.from-in-Some.result (pos c.args.den) c.from-in-Some.type_inv c.from-in-Some.ensures)
    (omega (arith, c.requires.den)) in
    let climb = as_small _ c.args.climb (2 ^ 64) (to_z-of_z c.ranges.climb) c.requires.climb in
    let rest = as_small _ (pos c.args.rest) (2 ^ 60) (carried c.from-in-Some-2.result (pos c.args.rest) c.from-in-Some-2.type_inv c.from-in-Some-2.ensures)
    (omega (arith, c.requires.rest, c.requires.den)) in
    omega (arith, mul-le-mul near den, mul-le-mul climb rest)

pub sum_of_products-sum-requires-2 : goal.sum_of_products-sum-requires-2
sum_of_products-sum-requires-2 c =
    let ahead : unsigned_abs (to_z w128 (of_z w128 c.args.ahead)) ≤ 2 ^ 64 = omega (arith, c.unsigned_abs.ensures.value, c.if-unsigned_abs.false) in
    let den = as_small _ (pos c.args.den) (2 ^ 60) (carried c.from-2.result (pos c.args.den) c.from-2.type_inv c.from-2.ensures)
    (omega (arith, c.requires.den)) in
    let climb = as_small _ c.args.climb (2 ^ 64) (to_z-of_z c.ranges.climb) c.requires.climb in
    let rest = as_small _ (pos c.args.rest) (2 ^ 60) (carried c.from-3.result (pos c.args.rest) c.from-3.type_inv c.from-3.ensures)
    (omega (arith, c.requires.rest, c.requires.den)) in
    omega (arith, mul-le-mul ahead den, mul-le-mul climb rest)

pub returns-in-Some : goal.returns-in-Some
returns-in-Some c =
    let near : to_z w128 (of_z w128 c.from.result) ≡ c.args.ahead = let e = c.in-Some.ensures in omega (arith, ints) in
    let den : to_z w128 (of_z w128 c.from-in-Some.result) ≡ pos c.args.den =
    carried c.from-in-Some.result (pos c.args.den) c.from-in-Some.type_inv c.from-in-Some.ensures in
    let climb : to_z w128 (of_z w128 c.args.climb) ≡ c.args.climb = to_z-of_z c.ranges.climb in
    let rest : to_z w128 (of_z w128 c.from-in-Some-2.result) ≡ pos c.args.rest =
    carried c.from-in-Some-2.result (pos c.args.rest) c.from-in-Some-2.type_inv c.from-in-Some-2.ensures in
    let sum = carried c.sum_of_products-sum.result _ c.sum_of_products-sum.type_inv (rw (near, den, climb, rest) at c.sum_of_products-sum.ensures.value) in
    rw sum at c.cmp.ensures

pub returns : goal.returns
returns c =
    let ahead : to_z w128 (of_z w128 c.args.ahead) ≡ c.args.ahead = to_z-of_z c.ranges.ahead in
    let den : to_z w128 (of_z w128 c.from-2.result) ≡ pos c.args.den = carried c.from-2.result (pos c.args.den) c.from-2.type_inv c.from-2.ensures in
    let climb : to_z w128 (of_z w128 c.args.climb) ≡ c.args.climb = to_z-of_z c.ranges.climb in
    let rest : to_z w128 (of_z w128 c.from-3.result) ≡ pos c.args.rest = carried c.from-3.result (pos c.args.rest) c.from-3.type_inv c.from-3.ensures in
    let sum = carried c.sum_of_products-sum-2.result _ c.sum_of_products-sum-2.type_inv
    (rw (ahead, den, climb, rest) at c.sum_of_products-sum-2.ensures.value) in
    rw sum at c.cmp-2.ensures
