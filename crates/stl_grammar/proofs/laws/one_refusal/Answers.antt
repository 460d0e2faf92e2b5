use Rattle.stl_grammar.proofs.LawProofs.{one_refusal as law}
use Rattle.stl_grammar.proofs.laws.one_refusal.Goals as goal

pub returns : goal.returns
returns c = law
