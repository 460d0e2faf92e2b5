-- The digits are joined in pairs, and the pairs by two products.
use Rattle.trace_reader.proofs.ValueLemmas.{value_is}
use Rattle.trace_reader.proofs.eight.number_of.Goals as goal

pub returns : goal.returns
returns c = value_is c.args.word
