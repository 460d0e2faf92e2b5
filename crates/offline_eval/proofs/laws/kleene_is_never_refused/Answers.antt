use Rattle.std.proofs.Common.{◌≡◌, refl}
use Rattle.value_laws.specs.Kinds.{kleene_shape}
use Rattle.value_laws.specs.Values.{kleene_value}
use Rattle.stl_syntax.specs.SupInf.{Setting}
use Rattle.stl_syntax.specs.declared.node.Node.{Node}
use Rattle.std.specs.Prelude.{List}
use Rattle.offline_eval.specs.Evaluation.{IsFault}
use Rattle.offline_eval.specs.PlainAtoms.{knots_setting}
use Rattle.value_laws.specs.declared.kleene.Kleene.{Kleene}
use Rattle.offline_eval.specs.declared.faults.EvalFault.{EvalFault}
use Rattle.offline_eval.specs.declared.faults.EvalFault.TheVariants as F
use Rattle.offline_eval.proofs.Never.{levels_are_never_wide}
use Rattle.offline_eval.proofs.PlainAtoms.{plain_told}
use Rattle.offline_eval.proofs.laws.kleene_is_never_refused.Goals as goal

only_memory : (nodes : List Node) (s : Setting) (e : EvalFault Kleene) → IsFault kleene_shape nodes s e → e ≡ F.Memory
only_memory nodes s F.Memory is = refl
only_memory nodes s (F.Wide c) is = absurd (levels_are_never_wide kleene_shape (λ p. kleene_value p.known) (λ p. refl) nodes s c.node c.pair is.1)

pub returns : goal.returns
returns c nodes from to atoms e count sound inputs fault =
    let s = knots_setting kleene_shape nodes from to atoms in
    only_memory nodes s e
    (fault s (record { lowest = refl; highest = refl; from = refl; to = refl }) (plain_told kleene_shape nodes from to atoms count sound inputs))
