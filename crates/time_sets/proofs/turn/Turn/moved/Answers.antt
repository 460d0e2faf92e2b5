use Rattle.std.proofs.Common.{◌≡◌, ◌≤◌, ◌^◌, ◌+ℤ◌, to_z, of_z, w64, arith, ap, ◌∙◌}
use Rattle.std.proofs.lemmas.Int.{ints}
use Rattle.std.specs.Prelude.{unsigned_abs}
use Rattle.rational.proofs.Mixed.{mixed_shift}
use Rattle.time_sets.specs.Twice.{floor_of, is_after}
use Rattle.time_sets.proofs.turn.Turn.moved.Goals as goal

pub returns : goal.returns
returns c =
    let f = c.args.self.now in
    let e = c.twice_of.ensures in
    let whole : to_z w64 (of_z w64 c.twice_of.result) ≡ c.twice_of.result = omega (arith, ints) in
    let small : unsigned_abs (floor_of f.twice) ≤ 2 ^ 36 = c.requires.near in
    let is = c.floor.ensures in
    let by = c.requires.small in
    let sum : to_z w64 (of_z w64 (to_z w64 (of_z w64 c.floor.result) +ℤ to_z w64 (of_z w64 c.args.by))) ≡ floor_of f.twice +ℤ c.args.by =
    omega (arith, ints) in (
      mixed_shift (floor_of f.twice) (floor_of (to_z w64 (of_z w64 c.twice_of.result))) c.args.by f.rest f.den f.positive _
          (ap floor_of whole ∙ e.floor ∙ sum),
      ap is_after whole ∙ e.after,
    )
