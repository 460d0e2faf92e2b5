use Rattle.std.proofs.Common.{rules, to_z-of_z, ◌≡◌, ◌≤◌, ◌^◌, ◌-ℤ◌, ◌∙◌, arith, subst, sym, to_z, of_z}
use Rattle.std.specs.Int.RustNames.{unsigned_abs}
use Rattle.std.proofs.lemmas.Int.{ints}
use mir.Syntax.{w128}
use Rattle.frac128.proofs.Ahead.{gap_small}
use Rattle.frac128.proofs.ramp.Ramp.at_floor.Goals as goal

pub overflow_sub-gap : goal.overflow_sub-gap
overflow_sub-gap c =
    let f = c.args.self.now in
    let small = f.small_t0 in
    let g = gap_small c.args.t.now f.t0 f.small_t0 c.requires in
    let e = c.whole.ensures in
    omega (arith, ints)

pub on_tick-requires : goal.on_tick-requires
on_tick-requires c =
    let f = c.args.self.now in
    let small = f.small_t0 in
    let g = gap_small c.args.t.now f.t0 f.small_t0 c.requires in
    let e = c.whole.ensures in
    let k = c.from.ensures in
    omega (arith, ints)

pub returns-clause-value : goal.returns-clause-value
returns-clause-value c =
    let f = c.args.self.now in
    let t = c.args.t.now in
    let small = f.small_t0 in
    let g = gap_small t f.t0 f.small_t0 c.requires in
    let e = c.whole.ensures in
    let gap : to_z w128 (of_z w128 c.from.result) ≡ t.whole -ℤ f.t0 = let k = c.from.ensures in omega (arith, ints) in
    let num : to_z w128 (of_z w128 c.on_tick.result.num) ≡ c.on_tick.result.num = search (rules, to_z-of_z) in
    num ∙ (rw gap at c.on_tick.ensures.num)

pub returns-clause-small : goal.returns-clause-small
returns-clause-small c =
    let num : to_z w128 (of_z w128 c.on_tick.result.num) ≡ c.on_tick.result.num = search (rules, to_z-of_z) in
    subst (λ z. unsigned_abs z ≤ 2 ^ 67) (sym num) c.on_tick.ensures.small_num
