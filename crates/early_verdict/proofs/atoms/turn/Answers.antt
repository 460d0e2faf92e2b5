use Rattle.std.proofs.Common.{refl, inl, inr}
use Rattle.rational.proofs.Tests.{same_of_beq}
use Rattle.early_verdict.proofs.atoms.turn.Goals as goal

pub returns-then-pending-holds : goal.returns-then-pending-holds
returns-then-pending-holds c = let e = same_of_beq c.args.pending.holds c.args.holds c.if-pending-holds.true in (e, inl (e, refl, refl))

pub returns : goal.returns
returns c = (refl, inr (refl, c.in_ok-add_truth.ensures))
