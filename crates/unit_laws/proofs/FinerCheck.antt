-- What `check` writes in smaller ticks.
use Rattle.std.proofs.Common.{◌^◌, refl}
use Rattle.stl_syntax.specs.Formula.{root}
use Rattle.stl_syntax.specs.Scaling.{nodes_for}
use Rattle.report.specs.Report.{check}
use Rattle.unit_laws.specs.Units.{finer, KeepsItsText}
use Rattle.bounds.proofs.NearTimes.{ahead}
use Rattle.unit_laws.proofs.FinerTrees.{root_finer}
use Rattle.unit_laws.proofs.FinerRows.{some_power, finer_counts}
use Rattle.unit_laws.proofs.FinerVerdicts.{verdicts_by, verdicts_describe, start_line_by, verdict_lines_by}

-- `check` writes the same text in smaller ticks
pub check_keeps_its_text : KeepsItsText check
check_keeps_its_text f tr k m ok ft fv text (verdicts, body, line, d, l, s, e) =
    let p = root (nodes_for f tr) in
    let kp = some_power k in
    let mp = some_power m in
    let c = finer_counts k m tr ok in
    let same = root_finer f tr.header.scale k m ft fv in (
      verdicts_by (10 ^ k) (ahead 0) kp verdicts,
      body,
      line,
      rw same (verdicts_describe (10 ^ k) (ahead 0) (10 ^ m) kp mp c p verdicts d),
      verdict_lines_by k kp tr.header.scale (finer k m tr).header.scale refl verdicts body l,
      rw same (start_line_by (10 ^ k) (ahead 0) (10 ^ m) kp mp c p line s),
      e,
    )
