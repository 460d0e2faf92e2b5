use Rattle.std.proofs.Common.{◌∙◌}
use Rattle.growing_sets.proofs.WindowLemmas.{on_good}
use Rattle.growing_sets.proofs.stretches.bring.Goals as goal

pub returns : goal.returns
returns c =
    on_good c.send_back.result c.send_back.ensures (λ e. e ∙ c.in_ok-send_on.ensures.same ∙ c.in_ok-add_seam.ensures.same)
