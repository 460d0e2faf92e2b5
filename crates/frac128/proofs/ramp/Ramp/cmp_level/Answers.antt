use Rattle.std.proofs.Common.{rules, to_z-of_z, ◌≡◌, pos, ◌≤◌, ◌^◌, ◌+ℤ◌, ◌-ℤ◌, ◌*ℤ◌, arith, refl, to_z, of_z, mul-le-mul}
use Rattle.std.specs.Int.RustNames.{unsigned_abs}
use Rattle.std.proofs.lemmas.Int.{ints}
use mir.Syntax.{w128}
use Rattle.rational.specs.Line.{at}
use Rattle.frac128.specs.Line.{line}
use Rattle.frac128.specs.Value.{value}
use Rattle.frac128.proofs.Differences.{ahead_is}
use Rattle.frac128.proofs.RampDifferences.{ramp_gap, on_from_zero}
use Rattle.frac128.proofs.Levels.{moved_down, order_of_products}
use Rattle.frac128.proofs.ramp.Ramp.cmp_level.Goals as goal

pub determinant-ahead-requires : goal.determinant-ahead-requires
determinant-ahead-requires c =
    let here : unsigned_abs (to_z w128 (of_z w128 c.at_floor-here.result)) ≤ 2 ^ 67 = let s = c.at_floor-here.ensures.small in omega (arith, ints) in
    let other : unsigned_abs (to_z w128 (of_z w128 c.from.result)) ≤ 2 ^ 63 = omega (arith, ints) in
    let run : unsigned_abs (to_z w128 (of_z w128 c.from-2.result)) ≤ 2 ^ 32 = omega (arith, ints) in
    omega (arith, mul-le-mul other run)

pub returns : goal.returns
returns c =
    let f = c.args.self.now in
    let t = c.args.t.now in
    let k = c.args.c.now in
    let offset = f.v0 *ℤ pos f.run -ℤ f.rise *ℤ f.t0 in
    let here : to_z w128 (of_z w128 c.at_floor-here.result) ≡ c.at_floor-here.result = search (rules, to_z-of_z) in
    let other_whole : to_z w128 (of_z w128 c.from.result) ≡ k.whole = omega (arith, ints) in
    let run : to_z w128 (of_z w128 c.from-2.result) ≡ pos f.run = omega (arith, ints) in
    let ahead : to_z w128 (of_z w128 c.determinant-ahead.result) ≡ c.determinant-ahead.result = search (rules, to_z-of_z) in
    let here_is : c.at_floor-here.result ≡ offset +ℤ f.rise *ℤ t.whole =
    on_from_zero f.v0 f.rise f.t0 t.whole c.at_floor-here.result offset (pos f.run) c.at_floor-here.ensures.value refl in
    let moved : c.determinant-ahead.result ≡ c.at_floor-here.result *ℤ pos 1 -ℤ k.whole *ℤ pos f.run =
    rw (here, other_whole, run) at c.determinant-ahead.ensures.value in
    let a = at (line f) (value t) in
    let sum = ahead_is (line f) offset f.rise t.whole c.at_floor-here.result _ t.rest t.den t.positive (ramp_gap f offset refl) here_is refl in
    order_of_products c.cmp_ahead.result a k.whole f.run t.den k.rest k.den k.positive refl sum
    (moved_down c.at_floor-here.result c.determinant-ahead.result k.whole _ _ f.rise f.run t.den t.rest moved refl refl)
    (rw ahead at c.cmp_ahead.ensures)
