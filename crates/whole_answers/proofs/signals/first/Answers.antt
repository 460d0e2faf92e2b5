use Rattle.std.proofs.Common.{◌∙◌, sym}
use Rattle.stl_syntax.proofs.RowsLemmas.{first_time_at}
use Rattle.whole_answers.proofs.CaseSignals.{no_row}
use Rattle.whole_answers.proofs.signals.first.Goals as goal

pub returns : goal.returns
returns c = c.time.ensures no_row ∙ sym (first_time_at c.args.trace.now.rows no_row c.requires)
