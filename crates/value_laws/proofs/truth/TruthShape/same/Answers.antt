use Rattle.rational.proofs.LevelLemmas.{same_levels, one_level}
use Rattle.value_laws.specs.Values.{truth_value}
use Rattle.value_laws.proofs.ValueLemmas.{truth_apart, truth_alike}
use Rattle.value_laws.proofs.truth.TruthShape.same.Goals as goal

pub returns : goal.returns
returns c =
    let p = c.args.p.now.holds in let q = c.args.q.now.holds in
    (λ e. same_levels (truth_value p) (truth_value q) (truth_alike p q e), λ h. truth_apart p q (one_level (truth_value p) (truth_value q) h))
