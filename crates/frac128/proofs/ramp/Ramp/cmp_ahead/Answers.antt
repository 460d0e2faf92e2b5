use Rattle.std.proofs.Common.{◌≡◌, refl, pos, ◌+ℤ◌, ◌*ℤ◌, ◌≤◌, ◌^◌, ◌∙◌, ap, sym, to_z, of_z, arith, to_z-of_z, mul-le-mul}
use Rattle.std.specs.Int.RustNames.{unsigned_abs}
use Rattle.std.proofs.lemmas.Int.{ints}
use mir.Syntax.{w128}
use Rattle.frac128.proofs.Carried.{carried, widened_small, as_small}
use Rattle.frac128.proofs.Levels.{Far, no_rest, far_order}
use Rattle.frac128.proofs.ramp.Ramp.cmp_ahead.Goals as goal

pub returns-in_default : goal.returns-in_default
returns-in_default c =
    let f = c.args.self.now in
    let t = c.args.t.now in
    let k = c.args.c.now in
    let ahead : to_z w128 (of_z w128 c.args.ahead) ≡ c.args.ahead = to_z-of_z c.ranges.ahead in
    let far : Far c.args.ahead f.rise f.run t.rest t.den k.rest k.den = record {
      far = omega (arith, ints, ahead, c.in_default.ensures);
      small_rise = f.small_rise;
      small_run = omega (arith, c.requires);
      rest = t.below;
      other_rest = k.below;
    } in
    far_order c.cmp.result c.args.ahead f.rise f.run t.rest t.den k.rest k.den far (rw ahead at c.cmp.ensures)

pub sum_of_products-top-requires : goal.sum_of_products-top-requires
sum_of_products-top-requires c =
    let f = c.args.self.now in
    let t = c.args.t.now in
    let near : unsigned_abs (to_z w128 (of_z w128 c.from.result)) ≤ 2 ^ 63 = omega (arith, ints, c.from.ensures) in
    let den =
    as_small _ (pos t.den) (2 ^ 60) (carried c.from-2.result (pos t.den) c.from-2.type_inv (c.from-2.ensures ∙ ap pos c.den.ensures))
    (omega (arith, t.small)) in
    let rise =
    as_small _ f.rise (2 ^ 31) (widened_small c.from-3.result f.rise (2 ^ 31) c.from-3.type_inv c.from-3.ensures f.small_rise (omega arith)) f.small_rise in
    let rest =
    as_small _ (pos t.rest) (2 ^ 60) (carried c.from-4.result (pos t.rest) c.from-4.type_inv (c.from-4.ensures ∙ ap pos c.rest.ensures))
    (omega (arith, t.below, t.small)) in
    omega (arith, mul-le-mul near den, mul-le-mul rise rest)

pub returns-then-rest-eq0 : goal.returns-then-rest-eq0
returns-then-rest-eq0 c =
    let f = c.args.self.now in
    let t = c.args.t.now in
    let k = c.args.c.now in
    let near : to_z w128 (of_z w128 c.from.result) ≡ c.args.ahead = let e = c.in-Some.ensures in omega (arith, ints) in
    let den : to_z w128 (of_z w128 c.from-2.result) ≡ pos t.den =
    carried c.from-2.result (pos t.den) c.from-2.type_inv (c.from-2.ensures ∙ ap pos c.den.ensures) in
    let rise : to_z w128 (of_z w128 c.from-3.result) ≡ f.rise =
    widened_small c.from-3.result f.rise (2 ^ 31) c.from-3.type_inv c.from-3.ensures f.small_rise (omega arith) in
    let rest : to_z w128 (of_z w128 c.from-4.result) ≡ pos t.rest =
    carried c.from-4.result (pos t.rest) c.from-4.type_inv (c.from-4.ensures ∙ ap pos c.rest.ensures) in
    let sum : c.sum_of_products-top.result ≡ c.args.ahead *ℤ pos t.den +ℤ f.rise *ℤ pos t.rest =
    rw (near, den, rise, rest) at c.sum_of_products-top.ensures.value in
    let top : to_z w128 (of_z w128 c.sum_of_products-top.result) ≡ c.sum_of_products-top.result =
    carried c.sum_of_products-top.result c.sum_of_products-top.result c.sum_of_products-top.type_inv refl in
    let zero : k.rest ≡ 0 = sym c.rest-2.ensures ∙ c.if-rest-eq0.true in
    rw (← sum) (no_rest c.cmp-then-rest-eq0.result c.sum_of_products-top.result f.run t.den k.rest k.den k.positive zero
    (rw top at c.cmp-then-rest-eq0.ensures))

pub returns : goal.returns
returns c =
    let f = c.args.self.now in
    let t = c.args.t.now in
    let near : to_z w128 (of_z w128 c.from.result) ≡ c.args.ahead = let e = c.in-Some.ensures in omega (arith, ints) in
    let den : to_z w128 (of_z w128 c.from-2.result) ≡ pos t.den =
    carried c.from-2.result (pos t.den) c.from-2.type_inv (c.from-2.ensures ∙ ap pos c.den.ensures) in
    let rise : to_z w128 (of_z w128 c.from-3.result) ≡ f.rise =
    widened_small c.from-3.result f.rise (2 ^ 31) c.from-3.type_inv c.from-3.ensures f.small_rise (omega arith) in
    let rest : to_z w128 (of_z w128 c.from-4.result) ≡ pos t.rest =
    carried c.from-4.result (pos t.rest) c.from-4.type_inv (c.from-4.ensures ∙ ap pos c.rest.ensures) in
    let top = carried c.sum_of_products-top.result _ c.sum_of_products-top.type_inv (rw (near, den, rise, rest) at c.sum_of_products-top.ensures.value) in
    rw top at c.cmp_over.ensures
