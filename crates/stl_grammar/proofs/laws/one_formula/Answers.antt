use Rattle.stl_grammar.proofs.LawProofs.{one_formula as law}
use Rattle.stl_grammar.proofs.laws.one_formula.Goals as goal

pub returns : goal.returns
returns c = law
