use Rattle.agreeing.proofs.WideLaw.{streamed_wides_are_whole}
use Rattle.agreeing.proofs.WideInput.{input_wides_are_whole}
use Rattle.agreeing.proofs.laws.streamed_wides_are_whole.Goals as goal

pub returns : goal.returns
returns c = record { rows = streamed_wides_are_whole; input = input_wides_are_whole }
