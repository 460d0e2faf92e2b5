-- What each command writes it writes in smaller ticks too.
use Rattle.report.specs.Report.{check, robust, explain, json, table}
use Rattle.unit_laws.specs.Units.{TextsAreKept}
use Rattle.unit_laws.proofs.FinerCheck.{check_keeps_its_text}
use Rattle.unit_laws.proofs.FinerRobust.{robust_is_of_units}
use Rattle.unit_laws.proofs.FinerExplain.{explain_keeps_its_text}
use Rattle.unit_laws.proofs.FinerJson.{json_keeps_its_text}
use Rattle.unit_laws.proofs.FinerTable.{table_is_of_units}

-- each command keeps its text
pub texts_are_kept : TextsAreKept
texts_are_kept check = check_keeps_its_text
texts_are_kept robust = λ f tr k m ok ft fv text. (robust_is_of_units f tr k m ok ft fv text).0
texts_are_kept explain = explain_keeps_its_text
texts_are_kept json = json_keeps_its_text
texts_are_kept table = λ f tr k m ok ft fv text. (table_is_of_units f tr k m ok ft fv text).0
