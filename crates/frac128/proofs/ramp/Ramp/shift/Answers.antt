use Rattle.std.proofs.Common.{◌≡◌, ◌-ℤ◌, w64, to_z, of_z, arith, rules, to_z-of_z}
use Rattle.std.proofs.lemmas.Int.{ints}
use Rattle.frac128.proofs.Moves.{shifted}
use Rattle.frac128.proofs.ramp.Ramp.shift.Goals as goal

pub returns-clause-value : goal.returns-clause-value
returns-clause-value c = λ t.
    let f = c.args.self.now in
    let t0 : to_z w64 (of_z w64 (to_z w64 (of_z w64 f.t0) -ℤ to_z w64 (of_z w64 c.args.by))) ≡ f.t0 -ℤ c.args.by = omega (arith, ints) in
    let v0 : to_z w64 (of_z w64 f.v0) ≡ f.v0 = search (rules, to_z-of_z) in
    let rise : to_z w64 (of_z w64 f.rise) ≡ f.rise = search (rules, to_z-of_z) in
    shifted f.t0 f.v0 f.rise c.args.by f.positive _ t t0 v0 rise
