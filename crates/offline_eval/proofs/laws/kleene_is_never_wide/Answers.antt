use Rattle.std.proofs.Common.{refl}
use Rattle.value_laws.specs.Kinds.{kleene_shape}
use Rattle.value_laws.specs.Values.{kleene_value}
use Rattle.offline_eval.proofs.Never.{levels_are_never_wide}
use Rattle.offline_eval.proofs.laws.kleene_is_never_wide.Goals as goal

pub returns : goal.returns
returns c = levels_are_never_wide kleene_shape (λ p. kleene_value p.known) (λ p. refl)
