use Rattle.agreeing.proofs.SignLaw.{lines_agree_in_sign, rows_agree_in_sign, reports_agree_in_sign}
use Rattle.agreeing.proofs.laws.margins_and_verdicts_agree.Goals as goal

pub returns : goal.returns
returns c = record { lines = lines_agree_in_sign; rows = rows_agree_in_sign; report = reports_agree_in_sign }
