use Rattle.promises.proofs.MarginTruth.{measured_truth, tabulated_truth, reported_truth}
use Rattle.promises.proofs.laws.margins_tell_the_truth.Goals as goal

pub returns : goal.returns
returns c = record { lines = measured_truth; rows = tabulated_truth; report = reported_truth }
