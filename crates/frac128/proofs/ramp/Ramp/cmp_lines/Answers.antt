use Rattle.std.proofs.Common.{rules, to_z-of_z, ◌≡◌, pos, ◌≤◌, ◌^◌, ◌*◌, ◌+ℤ◌, ◌-ℤ◌, ◌*ℤ◌, arith, refl, to_z, of_z, ap}
use Rattle.std.specs.Int.RustNames.{unsigned_abs}
use Rattle.std.specs.Ordering.{int_cmp}
use Rattle.std.proofs.lemmas.Int.{ints}
use mir.Syntax.{w128}
use Rattle.rational.specs.Line.{at}
use Rattle.frac128.specs.Line.{line}
use Rattle.frac128.specs.Value.{value}
use Rattle.frac128.proofs.Differences.{ahead_is}
use Rattle.frac128.proofs.RampDifferences.{ramp_gap, on_from_zero}
use Rattle.frac128.proofs.Levels.{order_of_difference, sums_apart}
use Rattle.frac128.proofs.ramp.Ramp.cmp_lines.Goals as goal

pub determinant-ahead-requires : goal.determinant-ahead-requires
determinant-ahead-requires c =
    let here : unsigned_abs (to_z w128 (of_z w128 c.at_floor-here.result)) ≤ 2 ^ 67 = let s = c.at_floor-here.ensures.small in omega (arith, ints) in
    let there : unsigned_abs (to_z w128 (of_z w128 c.at_floor-there.result)) ≤ 2 ^ 67 = let s = c.at_floor-there.ensures.small in omega (arith, ints) in
    omega arith

pub overflow_sub-self : goal.overflow_sub-self
overflow_sub-self c =
    let small = c.args.self.now.small_rise in
    let other_small = c.args.other.now.small_rise in
    omega (arith, ints)

pub returns : goal.returns
returns c =
    let f = c.args.self.now in
    let g = c.args.other.now in
    let t = c.args.t.now in
    let small = f.small_rise in
    let other_small = g.small_rise in
    let offset = f.v0 *ℤ pos f.run -ℤ f.rise *ℤ f.t0 in
    let other_offset = g.v0 *ℤ pos g.run -ℤ g.rise *ℤ g.t0 in
    let same : f.run ≡ g.run = let e = c.if-self-other.false in omega (arith, ints) in
    let here : to_z w128 (of_z w128 c.at_floor-here.result) ≡ c.at_floor-here.result = search (rules, to_z-of_z) in
    let there : to_z w128 (of_z w128 c.at_floor-there.result) ≡ c.at_floor-there.result = search (rules, to_z-of_z) in
    let ahead : to_z w128 (of_z w128 c.determinant-ahead.result) ≡ c.determinant-ahead.result = search (rules, to_z-of_z) in
    let climb : to_z w128 (of_z w128 c.from.result) ≡ f.rise -ℤ g.rise = omega (arith, ints) in
    let apart : c.determinant-ahead.result ≡ c.at_floor-here.result *ℤ pos 1 -ℤ c.at_floor-there.result *ℤ pos 1 =
    rw (here, there) at c.determinant-ahead.ensures.value in
    let here_is : c.at_floor-here.result ≡ offset +ℤ f.rise *ℤ t.whole =
    on_from_zero f.v0 f.rise f.t0 t.whole c.at_floor-here.result offset (pos f.run) c.at_floor-here.ensures.value refl in
    let there_is : c.at_floor-there.result ≡ other_offset +ℤ g.rise *ℤ t.whole =
    on_from_zero g.v0 g.rise g.t0 t.whole c.at_floor-there.result other_offset (pos g.run) c.at_floor-there.ensures.value refl in
    let x = c.at_floor-here.result *ℤ pos t.den +ℤ f.rise *ℤ pos t.rest in
    let y = c.at_floor-there.result *ℤ pos t.den +ℤ g.rise *ℤ pos t.rest in
    let z = c.determinant-ahead.result *ℤ pos t.den +ℤ (f.rise -ℤ g.rise) *ℤ pos t.rest in
    let sign : c.sign_ahead.result ≡ int_cmp z (pos 0) = rw (ahead, climb, c.den.ensures, c.rest.ensures) at c.sign_ahead.ensures in
    order_of_difference c.sign_ahead.result (at (line f) (value t)) (at (line g) (value t)) x y z (ap (λ n. n * t.den) same)
    (ahead_is (line f) offset f.rise t.whole c.at_floor-here.result x t.rest t.den t.positive (ramp_gap f offset refl) here_is refl)
    (ahead_is (line g) other_offset g.rise t.whole c.at_floor-there.result y t.rest t.den t.positive (ramp_gap g other_offset refl) there_is refl)
    (sums_apart c.at_floor-here.result c.at_floor-there.result f.rise g.rise t.den t.rest apart refl refl refl refl)
    sign
