use Rattle.std.proofs.Common.{sym}
use Rattle.trace_stream.proofs.LastFaults.{other_fault, with_case, lacking_header, fitting_header}
use Rattle.trace_stream.proofs.case_reader.last_fault.Goals as goal

pub returns-in_default : goal.returns-in_default
returns-in_default g c = other_fault c.args.formula.now c.args.rows.now c.args.begun.now c.args.refusal c.in_default.not-NoRows

pub returns-then-is_some : goal.returns-then-is_some
returns-then-is_some g c = with_case c.args.formula.now c.args.rows.now c.args.begun.now c.args.refusal (sym c.if-is_some.ensures)

pub returns-in-Err : goal.returns-in-Err
returns-in-Err g c =
    lacking_header c.args.formula.now c.args.rows.now c.args.begun.now c.args.refusal c.header.result.now c.requires
    c.header.ensures c.in-NoRows.is (sym c.if-is_some.ensures) c.in-Err.stop c.in-Err.ensures

pub returns : goal.returns
returns g c =
    fitting_header c.args.formula.now c.args.rows.now c.args.begun.now c.args.refusal c.header.result.now c.requires
    c.header.ensures c.in-NoRows.is c.in_default-begin.field-0 c.in_default-begin.ensures
