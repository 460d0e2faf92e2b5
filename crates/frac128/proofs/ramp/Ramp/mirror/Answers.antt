use Rattle.std.proofs.Common.{◌≡◌, pos, ◌-ℤ◌, neg_ℤ, w64, to_z, of_z, arith, rules, to_z-of_z}
use Rattle.std.proofs.lemmas.Int.{ints}
use Rattle.frac128.proofs.Moves.{mirrored}
use Rattle.frac128.proofs.ramp.Ramp.mirror.Goals as goal

pub returns-clause-value : goal.returns-clause-value
returns-clause-value c = λ t.
    let f = c.args.self.now in
    let small_rise = f.small_rise in
    let t0 : to_z w64 (of_z w64 (to_z w64 (of_z w64 c.args.about) -ℤ to_z w64 (of_z w64 f.t0))) ≡ c.args.about -ℤ f.t0 = omega (arith, ints) in
    let v0 : to_z w64 (of_z w64 f.v0) ≡ f.v0 = search (rules, to_z-of_z) in
    let rise : to_z w64 (of_z w64 (pos 0 -ℤ to_z w64 (of_z w64 f.rise))) ≡ neg_ℤ f.rise = omega (arith, ints) in
    mirrored f.t0 f.v0 f.rise c.args.about f.positive _ t t0 v0 rise
