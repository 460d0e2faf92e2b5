-- The first fault of a trace's bytes for a formula stands with the reader of traces, and its line with the reports.
pub use Rattle.trace_reader.specs.InputFaults.{
  whole_limits,
  stream_limits,
  IsHeaderAt,
  here,
  later,
  Fault,
  of_trace,
  unknown,
  unit,
  line_of,
  IsUnknownIn,
  IsUnitIn,
  IsLack,
  IsTraceFault,
  IsInputFault,
  AreRowsBefore,
  sound,
  no_header_yet,
  faulted,
  faulted_header,
}
pub use Rattle.answer_lines.specs.FaultTexts.{fault_text}
