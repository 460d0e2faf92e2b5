use Rattle.promises.proofs.SureDecisions.{decision_is_sure, decision_is_the_truth}
use Rattle.promises.proofs.line_laws.an_early_verdict_is_the_truth.Goals as goal

pub returns : goal.returns
returns c = record { by_row = decision_is_sure; to_end = decision_is_the_truth }
