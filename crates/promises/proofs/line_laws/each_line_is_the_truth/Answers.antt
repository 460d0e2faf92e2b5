use Rattle.promises.proofs.SureLines.{lines_are_sure, lines_are_sure_to_end}
use Rattle.promises.proofs.line_laws.each_line_is_the_truth.Goals as goal

pub returns : goal.returns
returns c = record { by_row = lines_are_sure; to_end = lines_are_sure_to_end }
