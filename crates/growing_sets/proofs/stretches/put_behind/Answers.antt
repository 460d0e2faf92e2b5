use Rattle.std.proofs.Common.{◌∙◌, ap, ◌++◌, ◌∷◌, []}
use Rattle.growing_sets.proofs.WindowLemmas.{on_good}
use Rattle.growing_sets.proofs.stretches.put_behind.Goals as goal

pub returns-then-len-eq0 : goal.returns-then-len-eq0
returns-then-len-eq0 c =
    on_good c.put_into_last.result c.put_into_last.ensures (λ e. e ∙ ap (λ xs. xs ++ c.args.stretch ∷ []) c.in_ok-add_block.ensures.same)
