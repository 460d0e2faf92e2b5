use Rattle.std.proofs.Common.{◌∷◌, ◌++◌, [], true, ap, ◌∙◌}
use Rattle.report.proofs.verdict_entry.add_form.Goals as goal

pub returns-clause-ok : goal.returns-clause-ok
returns-clause-ok c = (
  c.in_ok-verdict.verdict,
  ([], true, c.in_ok-verdict.ensures),
  c.push_reserved.ensures.items ∙ ap (λ vs. vs ++ c.in_ok-verdict.verdict ∷ []) c.reserve.ensures.items,
)
