use Rattle.unit_laws.proofs.CoarserVerdicts.{truth_turns_at_fractions as law}
use Rattle.unit_laws.proofs.laws.truth_turns_at_fractions.Goals as goal

pub returns : goal.returns
returns c = law
