use Rattle.implicants.proofs.AddedRuns.{no_run}
use Rattle.std.proofs.Common.{◌≡◌, inl, inr, Some, subst}
use Rattle.std.specs.Prelude.{slice_get}
use Rattle.implicants.proofs.gone.gone_among.Goals as goal

pub loop-j-init : goal.loop-j-init
loop-j-init c j r at = absurd (no_run j r (subst (λ l. slice_get l j ≡ Some r) c.new-runs.ensures.items at))

pub loop-j-preserved : goal.loop-j-preserved
loop-j-preserved c j r at = elim (c.in_ok-add_gone.ensures j r at) [ inl h ↦ c.loop-j.invariant j r h | inr h ↦ h ]

pub returns : goal.returns
returns c = c.loop-j.invariant
