use Rattle.std.proofs.Common.{◌∷◌, ◌++◌, [], refl, ap, ◌∙◌, append_assoc}
use Rattle.report.proofs.margin_entry.add_forms.Goals as goal

pub returns-clause-ok : goal.returns-clause-ok
returns-clause-ok c = (
  c.in_ok-piece.piece ∷ c.in_ok-knot.knot ∷ [],
  (c.in_ok-piece.piece, c.in_ok-knot.knot, refl, ([], [], [], c.in_ok-piece.ensures), ([], [], c.in_ok-knot.ensures)),
  c.push_reserved-2.ensures.items ∙ ap (λ vs. vs ++ c.in_ok-knot.knot ∷ []) (c.push_reserved.ensures.items ∙ ap (λ vs. vs ++ c.in_ok-piece.piece ∷ []) c.reserve.ensures.items)
      ∙ append_assoc c.args.objects.now.items (c.in_ok-piece.piece ∷ []) (c.in_ok-knot.knot ∷ []),
)
