use Rattle.std.proofs.Common.{◌≡◌, pos, FitsSigned, ◌≤◌, ◌<◌, ◌*ℤ◌, ◌*◌, ◌^◌, to_z, of_z, arith, to_z-of_z, ap, ◌∙◌}
use Rattle.std.specs.Int.RustNames.{unsigned_abs}
use Rattle.std.proofs.lemmas.Int.{ints, fits_signed_mul}
use mir.Syntax.{w128}
use Rattle.frac128.proofs.Carried.{carried, run_times_rest_fits}
use Rattle.frac128.proofs.Levels.{products_order}
use Rattle.frac128.proofs.ramp.Ramp.cmp_over.Goals as goal

pub overflow_mul-other : goal.overflow_mul-other
overflow_mul-other c =
    let f = c.args.self.now in
    let k = c.args.c.now in
    let run : to_z w128 (of_z w128 c.from.result) ≡ pos f.run = carried c.from.result (pos f.run) c.from.type_inv c.from.ensures in
    let rest : to_z w128 (of_z w128 c.from-2.result) ≡ pos k.rest =
    carried c.from-2.result (pos k.rest) c.from-2.type_inv (c.from-2.ensures ∙ ap pos c.rest.ensures) in
    let few : f.run < 2 ^ 32 = omega arith in
    rw (run, rest) (run_times_rest_fits f.run k.rest few (omega (arith, k.small, k.below)))

pub overflow_mul-left : goal.overflow_mul-left
overflow_mul-left c =
    let k = c.args.c.now in
    let x : to_z w128 (of_z w128 c.from-in-Some-narrow.result) ≡ c.args.top = let e = c.in-Some.ensures in omega (arith, ints) in
    let x_small : unsigned_abs c.args.top ≤ 2 ^ 63 = let e = c.in-Some.ensures in omega (arith, ints) in
    let den : to_z w128 (of_z w128 c.from-in-Some-narrow-2.result) ≡ pos k.den =
    carried c.from-in-Some-narrow-2.result (pos k.den) c.from-in-Some-narrow-2.type_inv
    (c.from-in-Some-narrow-2.ensures ∙ ap pos c.den-in-Some-narrow.ensures) in
    rw (x, den) (fits_signed_mul w128 c.args.top (pos k.den) (2 ^ 63) (2 ^ 60) x_small (omega (arith, k.small)) (omega arith))

pub overflow_mul-right : goal.overflow_mul-right
overflow_mul-right c =
    let f = c.args.self.now in
    let t = c.args.t.now in
    let k = c.args.c.now in
    let run : to_z w128 (of_z w128 c.from.result) ≡ pos f.run = carried c.from.result (pos f.run) c.from.type_inv c.from.ensures in
    let rest : to_z w128 (of_z w128 c.from-2.result) ≡ pos k.rest =
    carried c.from-2.result (pos k.rest) c.from-2.type_inv (c.from-2.ensures ∙ ap pos c.rest.ensures) in
    let few : f.run < 2 ^ 32 = omega arith in
    let fits : FitsSigned w128 (pos (f.run * k.rest)) = run_times_rest_fits f.run k.rest few (omega (arith, k.small, k.below)) in
    let other : to_z w128 (of_z w128 (to_z w128 (of_z w128 c.from.result) *ℤ to_z w128 (of_z w128 c.from-2.result))) ≡ pos (f.run * k.rest) =
    rw (run, rest) (to_z-of_z fits) in
    let y_is = c.in-Some-narrow.ensures ∙ other in
    let y : to_z w128 (of_z w128 c.from-in-Some-narrow-3.result) ≡ pos (f.run * k.rest) = omega (arith, ints, y_is) in
    let y_small : unsigned_abs (pos (f.run * k.rest)) ≤ 2 ^ 63 = omega (arith, ints, y_is) in
    let den : to_z w128 (of_z w128 c.from-den.result) ≡ pos t.den =
    carried c.from-den.result (pos t.den) c.from-den.type_inv (c.from-den.ensures ∙ ap pos c.den.ensures) in
    rw (y, den) (fits_signed_mul w128 (pos (f.run * k.rest)) (pos t.den) (2 ^ 63) (2 ^ 60) y_small (omega (arith, t.small)) (omega arith))

pub returns-in-Some-narrow : goal.returns-in-Some-narrow
returns-in-Some-narrow c =
    let f = c.args.self.now in
    let t = c.args.t.now in
    let k = c.args.c.now in
    let run : to_z w128 (of_z w128 c.from.result) ≡ pos f.run = carried c.from.result (pos f.run) c.from.type_inv c.from.ensures in
    let rest : to_z w128 (of_z w128 c.from-2.result) ≡ pos k.rest =
    carried c.from-2.result (pos k.rest) c.from-2.type_inv (c.from-2.ensures ∙ ap pos c.rest.ensures) in
    let few : f.run < 2 ^ 32 = omega arith in
    let fits : FitsSigned w128 (pos (f.run * k.rest)) = run_times_rest_fits f.run k.rest few (omega (arith, k.small, k.below)) in
    let other : to_z w128 (of_z w128 (to_z w128 (of_z w128 c.from.result) *ℤ to_z w128 (of_z w128 c.from-2.result))) ≡ pos (f.run * k.rest) =
    rw (run, rest) (to_z-of_z fits) in
    let x : to_z w128 (of_z w128 c.from-in-Some-narrow.result) ≡ c.args.top = let e = c.in-Some.ensures in omega (arith, ints) in
    let x_small : unsigned_abs c.args.top ≤ 2 ^ 63 = let e = c.in-Some.ensures in omega (arith, ints) in
    let y_is = c.in-Some-narrow.ensures ∙ other in
    let y : to_z w128 (of_z w128 c.from-in-Some-narrow-3.result) ≡ pos (f.run * k.rest) = omega (arith, ints, y_is) in
    let y_small : unsigned_abs (pos (f.run * k.rest)) ≤ 2 ^ 63 = omega (arith, ints, y_is) in
    let other_den : to_z w128 (of_z w128 c.from-in-Some-narrow-2.result) ≡ pos k.den =
    carried c.from-in-Some-narrow-2.result (pos k.den) c.from-in-Some-narrow-2.type_inv
    (c.from-in-Some-narrow-2.ensures ∙ ap pos c.den-in-Some-narrow.ensures) in
    let den : to_z w128 (of_z w128 c.from-den.result) ≡ pos t.den =
    carried c.from-den.result (pos t.den) c.from-den.type_inv (c.from-den.ensures ∙ ap pos c.den.ensures) in
    let left_fits : FitsSigned w128 (c.args.top *ℤ pos k.den) =
    fits_signed_mul w128 c.args.top (pos k.den) (2 ^ 63) (2 ^ 60) x_small (omega (arith, k.small)) (omega arith) in
    let right_fits : FitsSigned w128 (pos (f.run * k.rest) *ℤ pos t.den) =
    fits_signed_mul w128 (pos (f.run * k.rest)) (pos t.den) (2 ^ 63) (2 ^ 60) y_small (omega (arith, t.small)) (omega arith) in
    let left : to_z w128 (of_z w128 (to_z w128 (of_z w128 c.from-in-Some-narrow.result) *ℤ to_z w128 (of_z w128 c.from-in-Some-narrow-2.result)))
    ≡ c.args.top *ℤ pos k.den = rw (x, other_den) (to_z-of_z left_fits) in
    let right : to_z w128 (of_z w128 (to_z w128 (of_z w128 c.from-in-Some-narrow-3.result) *ℤ to_z w128 (of_z w128 c.from-den.result)))
    ≡ pos (f.run * k.rest) *ℤ pos t.den = rw (y, den) (to_z-of_z right_fits) in
    rw (left, right) at c.cmp.ensures

pub cmp_ratio-requires-clause-positive : goal.cmp_ratio-requires-clause-positive
cmp_ratio-requires-clause-positive c =
    let t = c.args.t.now in
    let den : to_z w128 (of_z w128 c.from-den.result) ≡ pos t.den =
    carried c.from-den.result (pos t.den) c.from-den.type_inv (c.from-den.ensures ∙ ap pos c.den.ensures) in
    omega (arith, ints, den, t.positive)

pub cmp_ratio-requires-clause-other_positive : goal.cmp_ratio-requires-clause-other_positive
cmp_ratio-requires-clause-other_positive c =
    let k = c.args.c.now in
    let other_den : to_z w128 (of_z w128 c.from-3.result) ≡ pos k.den =
    carried c.from-3.result (pos k.den) c.from-3.type_inv (c.from-3.ensures ∙ ap pos c.den-2.ensures) in
    omega (arith, ints, other_den, k.positive)

pub returns : goal.returns
returns c =
    let f = c.args.self.now in
    let t = c.args.t.now in
    let k = c.args.c.now in
    let top : to_z w128 (of_z w128 c.args.top) ≡ c.args.top = to_z-of_z c.ranges.top in
    let den : to_z w128 (of_z w128 c.from-den.result) ≡ pos t.den =
    carried c.from-den.result (pos t.den) c.from-den.type_inv (c.from-den.ensures ∙ ap pos c.den.ensures) in
    let run : to_z w128 (of_z w128 c.from.result) ≡ pos f.run = carried c.from.result (pos f.run) c.from.type_inv c.from.ensures in
    let rest : to_z w128 (of_z w128 c.from-2.result) ≡ pos k.rest =
    carried c.from-2.result (pos k.rest) c.from-2.type_inv (c.from-2.ensures ∙ ap pos c.rest.ensures) in
    let other_den : to_z w128 (of_z w128 c.from-3.result) ≡ pos k.den =
    carried c.from-3.result (pos k.den) c.from-3.type_inv (c.from-3.ensures ∙ ap pos c.den-2.ensures) in
    let few : f.run < 2 ^ 32 = omega arith in
    let fits : FitsSigned w128 (pos (f.run * k.rest)) = run_times_rest_fits f.run k.rest few (omega (arith, k.small, k.below)) in
    let other : to_z w128 (of_z w128 (to_z w128 (of_z w128 c.from.result) *ℤ to_z w128 (of_z w128 c.from-2.result))) ≡ pos (f.run * k.rest) =
    rw (run, rest) (to_z-of_z fits) in
    products_order c.cmp_ratio.result c.args.top (f.run * k.rest) t.den k.den t.positive k.positive (rw (top, den, other, other_den) at c.cmp_ratio.ensures)
