use Rattle.std.proofs.Common.{◌≤◌, ◌-ℤ◌, length, pos}
use Rattle.rational.specs.Places.{Same}
use Rattle.pieces.specs.Chains.{IsWorth, begin_at, stop}
use Rattle.pieces.specs.Negating.{BasesFrom}
use Rattle.pieces.specs.Turning.{RunBack, turned}
use Rattle.pieces.proofs.ChainsTell.{TellsSoFar}
use Rattle.pieces.proofs.RunningBack.{EndsTurned}
use Rattle.pieces.proofs.turning.run_back.Given as goal

abbrev pub invariant-loop-i : goal.invariant-loop-i
invariant-loop-i g l = record {
  inside : l.i ≤ length l.chain.pieces;
  tells : TellsSoFar g.P.Shape (RunBack (IsWorth g.P.Shape l.chain)) l.built;
  begins : Same l.built.from (turned (stop l.chain));
  ends : Same (stop l.built) (turned (begin_at l.chain.from l.chain.pieces l.i));
  bases : BasesFrom g.P.Shape (λ b. pos 0 -ℤ b) l.chain l.built;
  turned : EndsTurned g.P.Shape l.chain l.i l.built.pieces;
}

abbrev pub decreases-loop-i : goal.decreases-loop-i
decreases-loop-i g l = l.i
