use Rattle.std.proofs.Common.{refl}
use Rattle.value_laws.specs.Kinds.{truth_shape}
use Rattle.value_laws.specs.Values.{truth_value}
use Rattle.offline_eval.proofs.Never.{levels_are_never_wide}
use Rattle.offline_eval.proofs.laws.truth_is_never_wide.Goals as goal

pub returns : goal.returns
returns c = levels_are_never_wide truth_shape (λ p. truth_value p.holds) (λ p. refl)
