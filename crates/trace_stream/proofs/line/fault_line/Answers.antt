use Rattle.answer_lines.specs.Lines.{line_text}
use Rattle.trace_stream.proofs.FaultLines.{name_of, trace_line, unit_line, column_line}
use Rattle.trace_stream.proofs.line.fault_line.Goals as goal

pub name_at-requires : goal.name_at-requires
name_at-requires c = name_of c.in-Unknown.is c.requires

pub returns-in-Trace : goal.returns-in-Trace
returns-in-Trace c =
    trace_line c.args.formula.now c.args.fault (line_text c.trace_fault_line.result) c.in-Trace.refusal c.trace_fault_line.ensures c.in-Trace.is

pub returns-in-Unknown : goal.returns-in-Unknown
returns-in-Unknown c =
    column_line c.args.formula.now c.args.fault (line_text c.unknown_line.result) c.in-Unknown.line c.in-Unknown.atom c.in-Unknown.term c.name_at.result.now
    c.unknown_line.ensures c.name_at.ensures c.in-Unknown.is

pub returns-in-Unit : goal.returns-in-Unit
returns-in-Unit c =
    unit_line c.args.formula.now c.args.fault (line_text c.unit_fault_line.result) c.in-Unit.line c.in-Unit.fault c.unit_fault_line.ensures c.in-Unit.is
