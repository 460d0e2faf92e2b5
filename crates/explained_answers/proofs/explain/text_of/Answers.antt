use Rattle.std.proofs.Common.{subst}
use Rattle.std.specs.Prelude.{All}
use Rattle.report.specs.ItemLines.{IsOfAtom}
use Rattle.explained_answers.specs.Reasons.{items_of}
use Rattle.explained_answers.proofs.explain.text_of.Goals as goal

pub put_items-requires-clause-atoms : goal.put_items-requires-clause-atoms
put_items-requires-clause-atoms c = subst (λ e. All (IsOfAtom c.args.formula.now) (items_of e)) c.in-Violated.is c.requires.atoms
