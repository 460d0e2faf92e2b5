-- The digits are joined in pairs, and the pairs by a product.
use Rattle.trace_reader.proofs.ValueLemmas.{value_is_of_four}
use Rattle.trace_reader.proofs.four.number_of_four.Goals as goal

pub returns-clause-value : goal.returns-clause-value
returns-clause-value c = value_is_of_four c.args.word
