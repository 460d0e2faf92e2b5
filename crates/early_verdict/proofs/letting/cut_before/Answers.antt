use Rattle.std.proofs.Common.{subst, ◌∙◌}
use Rattle.rational.specs.Rational.{add, whole, ◌≈◌}
use Rattle.rational.proofs.Order.{le_of_same}
use Rattle.frac128.specs.Value.{value}
use Rattle.growing_sets.proofs.WindowLemmas.{near_fits}
use Rattle.early_verdict.proofs.MovedBack.{le_back}
use Rattle.early_verdict.proofs.letting.cut_before.Goals as goal

pub returns : goal.returns
returns c =
    let t = value c.args.cut.now.time in
    let u = value c.moved_cut.result.time in
    (le_back c.args.ticks t u).0 (le_of_same (subst (λ k. u ≈ add t (whole k))
    (near_fits c.ticks_before.result c.ticks_before.ensures.near ∙ c.ticks_before.ensures.value) c.moved_cut.ensures))
