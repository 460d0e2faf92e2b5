use Rattle.values_exist.proofs.LawProofs.{margins_exist, truths_exist, certainties_exist}
use Rattle.values_exist.proofs.laws.values_exist.Goals as goal

pub returns : goal.returns
returns c = record { margins = margins_exist; truths = truths_exist; certainties = certainties_exist }
