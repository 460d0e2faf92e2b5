use Rattle.stl_grammar.proofs.PrintedLaw.{printed_texts_are_formulas as law}
use Rattle.stl_grammar.proofs.laws.printed_texts_are_formulas.Goals as goal

pub returns : goal.returns
returns c = law
