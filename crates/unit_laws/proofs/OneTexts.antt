-- `check` writes one text in all ticks, of formulas and rows of any size, and what it writes of a trace that was read.
use Rattle.std.proofs.Common.{◌≡◌, ℕ, List, ◌++◌, sym, ap, ◌∙◌}
use Rattle.stl_syntax.specs.Trace.{Trace}
use Rattle.stl_syntax.specs.Formula.{Formula, root}
use Rattle.stl_syntax.specs.WellFormed.{IsWellFormed}
use Rattle.stl_syntax.specs.Scaling.{nodes_for}
use Rattle.report.specs.Report.{Out, check, robust, explain, json, table}
use Rattle.answer_lines.proofs.OneText.{start_once}
use Rattle.answer_lines.proofs.StreamTexts.{stretch_once}
use Rattle.unit_laws.specs.Units.{finer, CheckWritesOneText, ReadTextsAreOfUnits}
use Rattle.unit_laws.proofs.FinerCheck.{check_keeps_its_text}
use Rattle.unit_laws.proofs.FinerRobust.{robust_is_of_units}
use Rattle.unit_laws.proofs.FinerTable.{table_is_of_units}
use Rattle.unit_laws.proofs.ExplainBack.{explain_is_of_units, json_is_of_units}
use Rattle.unit_laws.proofs.CoarserVerdicts.{law_of_units}
use Rattle.unit_laws.proofs.ReadRanges.{read_rows, read_scale}

-- what `check` writes is one text
check_once : (f : Formula) (tr : Trace) (x y : List ℕ) → Out check f tr x → Out check f tr y → x ≡ y
check_once f tr x y (verdicts, body, line, told, lines, starts, is) (verdicts', body', line', told', lines', starts', is') =
    is ∙ ap (λ t. t ++ line) (stretch_once (root (nodes_for f tr)) tr _ body body' (verdicts, told, lines) (verdicts', told', lines'))
    ∙ ap (λ t. body' ++ t) (start_once (root (nodes_for f tr)) tr line line' starts starts') ∙ sym is'

-- and so it is in smaller ticks
pub check_writes_one_text : CheckWritesOneText
check_writes_one_text f tr k m ok ft fv text other h g = check_once f (finer k m tr) text other (check_keeps_its_text f tr k m ok ft fv text h) g

-- a formula and a trace that was read for it need no further premise
pub read_texts : (f : Formula) → IsWellFormed f → ReadTextsAreOfUnits f
read_texts f formed check bytes limits tr k m has =
    let (time, value) = read_scale bytes limits f.scale tr has in
    (law_of_units f tr k m formed has.text.rising (read_rows bytes limits f.scale tr has) time value).0
read_texts f formed robust bytes limits tr k m has =
    let (time, value) = read_scale bytes limits f.scale tr has in robust_is_of_units f tr k m has.text.rising time value
read_texts f formed explain bytes limits tr k m has =
    let (time, value) = read_scale bytes limits f.scale tr has in
    explain_is_of_units f tr k m formed has.text.rising (read_rows bytes limits f.scale tr has) time value
read_texts f formed json bytes limits tr k m has =
    let (time, value) = read_scale bytes limits f.scale tr has in
    json_is_of_units f tr k m formed has.text.rising (read_rows bytes limits f.scale tr has) time value
read_texts f formed table bytes limits tr k m has =
    let (time, value) = read_scale bytes limits f.scale tr has in table_is_of_units f tr k m has.text.rising time value
