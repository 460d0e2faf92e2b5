use Rattle.std.proofs.Common.{rules, pos}
use Rattle.std.proofs.lemmas.Int.{to_z-of_z}
use Rattle.frac128.specs.Value.{value}
use Rattle.implicants.specs.Cuts.{times_of}
use Rattle.implicants.proofs.MovedCuts.{moves_on}
use Rattle.implicants.proofs.cuts.add_moves.Goals as goal

pub loop-k-preserved : goal.loop-k-preserved
loop-k-preserved c =
    moves_on (value c.args.from.now) (value c.args.to.now) (times_of c.args.parent.now) c.args.moves.now c.loop-k.k _ (pos 0)
    c.loop-k-test.true c.loop-k.invariant c.in_ok-add_moved.ensures (search (rules, to_z-of_z))
