use Rattle.stl_grammar.proofs.LeastDigits.{printed_texts_are_read as law}
use Rattle.stl_grammar.proofs.laws.printed_texts_are_read.Goals as goal

pub returns : goal.returns
returns c = law
