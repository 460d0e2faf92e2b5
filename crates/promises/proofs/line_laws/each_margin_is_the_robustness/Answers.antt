use Rattle.promises.proofs.SureMargins.{margins_are_sure, margins_are_sure_to_end}
use Rattle.promises.proofs.line_laws.each_margin_is_the_robustness.Goals as goal

pub returns : goal.returns
returns c = record { by_row = margins_are_sure; to_end = margins_are_sure_to_end }
