use Rattle.std.proofs.Common.{rules, to_z-of_z, ◌≡◌, ◌≤◌, ◌^◌, ◌+ℤ◌, ◌*ℤ◌, arith, refl, to_z, of_z, mul-le-mul}
use Rattle.std.specs.Int.RustNames.{unsigned_abs}
use Rattle.std.proofs.lemmas.Int.{ints}
use mir.Syntax.{w128}
use Rattle.frac128.proofs.Fractions.{whole_of_within}
use Rattle.frac128.proofs.Differences.{ahead_is, sign_of}
use Rattle.frac128.proofs.ramp.difference.Difference.sign_at.Goals as goal

pub sum_of_products-ahead-requires : goal.sum_of_products-ahead-requires
sum_of_products-ahead-requires c =
    let g = c.args.self.now in
    let small_base = g.small_base in
    let small_climb = g.small_climb in
    let base : unsigned_abs (to_z w128 (of_z w128 g.base)) ≤ 2 ^ 99 = omega (arith, ints) in
    let climb : unsigned_abs (to_z w128 (of_z w128 g.climb)) ≤ 2 ^ 64 = omega (arith, ints) in
    let whole : unsigned_abs (to_z w128 (of_z w128 c.from.result)) ≤ 2 ^ 34 = omega (arith, ints, whole_of_within (2 ^ 34) c.args.t.now c.requires) in
    omega (arith, mul-le-mul climb whole)

pub returns : goal.returns
returns c = λ d g.
    let gap = c.args.self.now in
    let t = c.args.t.now in
    let base : to_z w128 (of_z w128 gap.base) ≡ gap.base = search (rules, to_z-of_z) in
    let climb : to_z w128 (of_z w128 gap.climb) ≡ gap.climb = search (rules, to_z-of_z) in
    let whole : to_z w128 (of_z w128 c.from.result) ≡ t.whole = omega (arith, ints) in
    let ahead : to_z w128 (of_z w128 c.sum_of_products-ahead.result) ≡ c.sum_of_products-ahead.result = search (rules, to_z-of_z) in
    let first : c.sum_of_products-ahead.result ≡ gap.base +ℤ gap.climb *ℤ t.whole =
    let h = rw (base, climb, whole) at c.sum_of_products-ahead.ensures.value in omega (arith, ints) in
    sign_of _ _ _ (ahead_is d gap.base gap.climb t.whole c.sum_of_products-ahead.result _ t.rest t.den t.positive g first refl)
    (rw (ahead, climb, c.den.ensures, c.rest.ensures) at c.sign_ahead.ensures)
