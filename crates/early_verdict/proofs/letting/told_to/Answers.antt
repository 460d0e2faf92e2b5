use Rattle.std.proofs.Common.{inl, inr}
use Rattle.frac128.specs.Cuts.{place}
use Rattle.early_verdict.proofs.LettingLemmas.{past_one}
use Rattle.rational.proofs.PlaceLemmas.{sides}
use Rattle.early_verdict.proofs.letting.told_to.Goals as goal

pub runs-init : goal.runs-init
runs-init c = λ t a u. inr (c.past-cut.ensures t a u)

pub runs-preserved : goal.runs-preserved
runs-preserved c = λ t a u. elim (sides (place c.runs.cut) t) [
  | inl b ↦ c.runs.invariant t a b
  | inr b ↦ elim (sides (place c.in-Some.span.to) t) [
    | inl d ↦ inl (past_one c.args.own.now.yes.spans.items c.in-Some.span (place c.runs.cut) t c.in-Some.ensures.some.0 c.in-Some.ensures.some.1 b d)
    | inr d ↦ inr (c.past-cut-in-runs.ensures t d u)
  ]
]

pub returns-in_default : goal.returns-in_default
returns-in_default c = c.runs.invariant

pub returns : goal.returns
returns c = c.runs.invariant
