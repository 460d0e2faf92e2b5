use Rattle.std.proofs.Common.{◌≡◌, ◌∙◌, Some, false, ap, sym, subst}
use Rattle.std.proofs.lemmas.Option.{same_Some}
use Rattle.offline_eval.specs.Inputs.{is_atom}
use Rattle.offline_eval.proofs.Places.{not_atom}
use Rattle.whole_answers.proofs.signals.put_node.Goals as goal

pub put_atom-requires-clause-atom : goal.put_atom-requires-clause-atom
put_atom-requires-clause-atom g c = (c.in-Atom.field-0, c.node.ensures.node ∙ ap (λ n. Some n) c.in-Atom.is)

pub put_made-requires-clause-kind : goal.put_made-requires-clause-kind
put_made-requires-clause-kind g c n at =
    subst (λ m. is_atom m ≡ false) (same_Some _ _ (sym c.node.ensures.node ∙ at)) (not_atom c.node.result.now c.in_default.not-Atom)
