use Rattle.std.proofs.Common.{◌≡◌, pos, ◌-ℤ◌, neg_ℤ, w64, to_z, of_z, arith, rules, to_z-of_z}
use Rattle.std.proofs.lemmas.Int.{ints}
use Rattle.frac128.proofs.Moves.{negated}
use Rattle.frac128.proofs.ramp.Ramp.neg.Goals as goal

pub returns-clause-value : goal.returns-clause-value
returns-clause-value c = λ t.
    let f = c.args.self.now in
    let small_v0 = f.small_v0 in
    let small_rise = f.small_rise in
    let t0 : to_z w64 (of_z w64 f.t0) ≡ f.t0 = search (rules, to_z-of_z) in
    let v0 : to_z w64 (of_z w64 (pos 0 -ℤ to_z w64 (of_z w64 f.v0))) ≡ neg_ℤ f.v0 = omega (arith, ints) in
    let rise : to_z w64 (of_z w64 (pos 0 -ℤ to_z w64 (of_z w64 f.rise))) ≡ neg_ℤ f.rise = omega (arith, ints) in
    negated f.t0 f.v0 f.rise f.positive _ t t0 v0 rise
