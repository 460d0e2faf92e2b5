use Rattle.std.proofs.Common.{◌≡◌, ◌+ℤ◌, ◌*ℤ◌, pos, to_z, of_z, w64, arith}
use Rattle.std.proofs.lemmas.Int.{ints}
use mir.Val.{bool_byte}
use Rattle.time_sets.proofs.TurnLemmas.{twice_apart, byte_small}
use Rattle.time_sets.proofs.twice.twice_of.Goals as goal

sum : (c : goal.After-from) → to_z w64 (of_z w64 (to_z w64 (of_z w64 (pos 2 *ℤ to_z w64 (of_z w64 c.args.floor))) +ℤ to_z w64 (of_z w64 c.from.result)))
    ≡ pos 2 *ℤ c.args.floor +ℤ pos (bool_byte c.args.after)
sum c = let e = c.from.ensures in let h = c.requires in let k = byte_small c.args.after in omega (arith, ints)

pub returns-clause-floor : goal.returns-clause-floor
returns-clause-floor c = (twice_apart _ c.args.floor c.args.after (sum c)).0

pub returns-clause-after : goal.returns-clause-after
returns-clause-after c = (twice_apart _ c.args.floor c.args.after (sum c)).1
