use Rattle.std.proofs.Common.{◌∙◌, Some, ap}
use Rattle.whole_answers.proofs.signals.is_one_atom.Goals as goal

pub returns-in-Atom-clause-atom : goal.returns-in-Atom-clause-atom
returns-in-Atom-clause-atom c h = (c.in-Atom.field-0, c.node.ensures.node ∙ ap (λ n. Some n) c.in-Atom.is)
