use Rattle.std.proofs.Common.{to_z-of_z, FitsSigned, ◌≡◌, ◌*◌, ◌^◌, ◌<◌, ◌≤◌, pos, ◌-ℤ◌, ◌*ℤ◌, ◌<ℤ◌, ◌∙◌, arith, to_z, of_z, sym, subst, ap}
use Rattle.std.proofs.Math.Nat.{mul-le-mul_left}
use Rattle.std.specs.Int.RustNames.{unsigned_abs}
use Rattle.std.proofs.lemmas.Int.{ints, fits_signed_from_abs}
use mir.Syntax.{w64, w128}
use Rattle.frac128.proofs.Ahead.{ahead_fraction, gap_small, on_tick_den, on_tick_num}
use Rattle.frac128.proofs.Carried.{carried, widened, widened_small, as_small}
use Rattle.frac128.proofs.ramp.Ramp.at.Goals as goal

pub value_ahead-requires : goal.value_ahead-requires
value_ahead-requires c =
    let f = c.args.self.now in
    let t = c.args.t.now in
    let g = gap_small t f.t0 f.small_t0 c.requires in
    let v0 : to_z w128 (of_z w128 c.from-3.result) ≡ f.v0 =
    widened_small c.from-3.result f.v0 (2 ^ 31) c.from-3.type_inv c.from-3.ensures f.small_v0 (omega arith) in
    let rise : to_z w128 (of_z w128 c.from-4.result) ≡ f.rise =
    widened_small c.from-4.result f.rise (2 ^ 31) c.from-4.type_inv c.from-4.ensures f.small_rise (omega arith) in
    let run : to_z w128 (of_z w128 c.from-5.result) ≡ pos f.run = carried c.from-5.result (pos f.run) c.from-5.type_inv c.from-5.ensures in
    let whole_fits : FitsSigned w64 c.whole.result = record { sfits = c.whole.type_inv } in
    let whole : to_z w128 (of_z w128 c.from.result) ≡ t.whole =
    widened c.from.result c.whole.result t.whole c.from.type_inv c.from.ensures whole_fits c.whole.ensures in
    let t0 : to_z w128 (of_z w128 c.from-2.result) ≡ f.t0 =
    widened_small c.from-2.result f.t0 (2 ^ 34) c.from-2.type_inv c.from-2.ensures f.small_t0 (omega arith) in
    let fits : FitsSigned w128 (t.whole -ℤ f.t0) = fits_signed_from_abs w128 (t.whole -ℤ f.t0) (omega (arith, g)) in
    let gap : to_z w128 (of_z w128 (to_z w128 (of_z w128 c.from.result) -ℤ to_z w128 (of_z w128 c.from-2.result))) ≡ t.whole -ℤ f.t0 =
    rw (whole, t0) (to_z-of_z fits) in
    let rest : to_z w128 (of_z w128 c.from-6.result) ≡ pos t.rest =
    carried c.from-6.result (pos t.rest) c.from-6.type_inv (c.from-6.ensures ∙ ap pos c.rest.ensures) in
    let den : to_z w128 (of_z w128 c.from-7.result) ≡ pos t.den =
    carried c.from-7.result (pos t.den) c.from-7.type_inv (c.from-7.ensures ∙ ap pos c.den-2.ensures) in
    let few : f.run ≤ 2 ^ 32 = omega arith in
    record {
      v0_small = as_small _ f.v0 (2 ^ 31) v0 f.small_v0;
      rise_small = as_small _ f.rise (2 ^ 31) rise f.small_rise;
      run_small = as_small _ (pos f.run) (2 ^ 32) run few;
      gap_small = as_small _ (t.whole -ℤ f.t0) (2 ^ 35) gap g;
      rest_small = as_small _ (pos t.rest) (2 ^ 60) rest (omega (arith, t.below, t.small));
      den_small = as_small _ (pos t.den) (2 ^ 60) den (omega (arith, t.small));
      run_positive = subst (λ z. pos 0 <ℤ z) (sym run) (omega (arith, ints, f.positive));
      den_positive = subst (λ z. pos 0 <ℤ z) (sym den) (omega (arith, ints, t.positive));
    }

pub returns-then-den-eq1-clause-value : goal.returns-then-den-eq1-clause-value
returns-then-den-eq1-clause-value c =
    let f = c.args.self.now in
    let t = c.args.t.now in
    let one : t.den ≡ 1 = sym c.den.ensures ∙ c.if-den-eq1.true in
    let none : t.rest ≡ 0 = omega (arith, t.below, one) in
    let g = gap_small t f.t0 f.small_t0 c.requires in
    let whole_fits : FitsSigned w64 c.whole.result = record { sfits = c.whole.type_inv } in
    let whole : to_z w128 (of_z w128 c.from.result) ≡ t.whole =
    widened c.from.result c.whole.result t.whole c.from.type_inv c.from.ensures whole_fits c.whole.ensures in
    let t0 : to_z w128 (of_z w128 c.from-2.result) ≡ f.t0 =
    widened_small c.from-2.result f.t0 (2 ^ 34) c.from-2.type_inv c.from-2.ensures f.small_t0 (omega arith) in
    let fits : FitsSigned w128 (t.whole -ℤ f.t0) = fits_signed_from_abs w128 (t.whole -ℤ f.t0) (omega (arith, g)) in
    let gap : to_z w128 (of_z w128 (to_z w128 (of_z w128 c.from.result) -ℤ to_z w128 (of_z w128 c.from-2.result))) ≡ t.whole -ℤ f.t0 =
    rw (whole, t0) (to_z-of_z fits) in
    ahead_fraction f t _ _ (c.on_tick.ensures.den ∙ on_tick_den f.run t.den one)
    ((rw gap at c.on_tick.ensures.num) ∙ on_tick_num (f.v0 *ℤ pos f.run) f.rise (t.whole -ℤ f.t0) t.den t.rest one none)

pub returns-then-den-eq1-clause-small : goal.returns-then-den-eq1-clause-small
returns-then-den-eq1-clause-small c = c.on_tick.ensures.small

pub returns-clause-value : goal.returns-clause-value
returns-clause-value c =
    let f = c.args.self.now in
    let t = c.args.t.now in
    let g = gap_small t f.t0 f.small_t0 c.requires in
    let v0 : to_z w128 (of_z w128 c.from-3.result) ≡ f.v0 =
    widened_small c.from-3.result f.v0 (2 ^ 31) c.from-3.type_inv c.from-3.ensures f.small_v0 (omega arith) in
    let rise : to_z w128 (of_z w128 c.from-4.result) ≡ f.rise =
    widened_small c.from-4.result f.rise (2 ^ 31) c.from-4.type_inv c.from-4.ensures f.small_rise (omega arith) in
    let run : to_z w128 (of_z w128 c.from-5.result) ≡ pos f.run = carried c.from-5.result (pos f.run) c.from-5.type_inv c.from-5.ensures in
    let whole_fits : FitsSigned w64 c.whole.result = record { sfits = c.whole.type_inv } in
    let whole : to_z w128 (of_z w128 c.from.result) ≡ t.whole =
    widened c.from.result c.whole.result t.whole c.from.type_inv c.from.ensures whole_fits c.whole.ensures in
    let t0 : to_z w128 (of_z w128 c.from-2.result) ≡ f.t0 =
    widened_small c.from-2.result f.t0 (2 ^ 34) c.from-2.type_inv c.from-2.ensures f.small_t0 (omega arith) in
    let fits : FitsSigned w128 (t.whole -ℤ f.t0) = fits_signed_from_abs w128 (t.whole -ℤ f.t0) (omega (arith, g)) in
    let gap : to_z w128 (of_z w128 (to_z w128 (of_z w128 c.from.result) -ℤ to_z w128 (of_z w128 c.from-2.result))) ≡ t.whole -ℤ f.t0 =
    rw (whole, t0) (to_z-of_z fits) in
    let rest : to_z w128 (of_z w128 c.from-6.result) ≡ pos t.rest =
    carried c.from-6.result (pos t.rest) c.from-6.type_inv (c.from-6.ensures ∙ ap pos c.rest.ensures) in
    let den : to_z w128 (of_z w128 c.from-7.result) ≡ pos t.den =
    carried c.from-7.result (pos t.den) c.from-7.type_inv (c.from-7.ensures ∙ ap pos c.den-2.ensures) in
    ahead_fraction f t _ _ (rw (run, den) at c.value_ahead.ensures.den) (rw (v0, run, den, rise, gap, rest) at c.value_ahead.ensures.num)

pub returns-clause-den : goal.returns-clause-den
returns-clause-den c =
    let f = c.args.self.now in
    let t = c.args.t.now in
    let run : to_z w128 (of_z w128 c.from-5.result) ≡ pos f.run = carried c.from-5.result (pos f.run) c.from-5.type_inv c.from-5.ensures in
    let den : to_z w128 (of_z w128 c.from-7.result) ≡ pos t.den =
    carried c.from-7.result (pos t.den) c.from-7.type_inv (c.from-7.ensures ∙ ap pos c.den-2.ensures) in
    rw (run, den) at c.value_ahead.ensures.den

pub returns-clause-small : goal.returns-clause-small
returns-clause-small c =
    let f = c.args.self.now in
    let t = c.args.t.now in
    let run : to_z w128 (of_z w128 c.from-5.result) ≡ pos f.run = carried c.from-5.result (pos f.run) c.from-5.type_inv c.from-5.ensures in
    let den : to_z w128 (of_z w128 c.from-7.result) ≡ pos t.den =
    carried c.from-7.result (pos t.den) c.from-7.type_inv (c.from-7.ensures ∙ ap pos c.den-2.ensures) in
    let e : c.value_ahead.result.den ≡ pos (f.run * t.den) = rw (run, den) at c.value_ahead.ensures.den in
    let few : f.run < 2 ^ 32 = omega arith in
    let below : t.den ≤ 2 ^ 60 = omega (arith, t.small) in
    let product : f.run * t.den ≤ f.run * 2 ^ 60 = mul-le-mul_left f.run below in
    let small : f.run * t.den < 2 ^ 92 = omega (arith, product, few) in
    subst (λ z. unsigned_abs z < 2 ^ 92) (sym e) small
