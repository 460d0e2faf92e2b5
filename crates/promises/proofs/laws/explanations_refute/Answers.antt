use Rattle.promises.proofs.AccountLaw.{accounted, report_accounted}
use Rattle.promises.proofs.laws.explanations_refute.Goals as goal

pub returns : goal.returns
returns c = record { lines = accounted; report = report_accounted }
