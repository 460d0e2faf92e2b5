-- The line of each fault of a trace's bytes for a formula.
use Rattle.std.specs.Prelude.{ℕ, List, ◌++◌, codes, decimal}
use Rattle.stl_syntax.specs.Texts.{newline}
use Rattle.stl_syntax.specs.declared.scale.UnitFault.{UnitFault}
use Rattle.stl_syntax.specs.declared.scale.UnitFault.TheVariants as unit
use Rattle.trace_reader.specs.InputFaults.{Fault, of_trace, unknown, unit as of_unit}
use Rattle.trace_reader.specs.declared.refusal.TraceRefusal.{TraceRefusal}
use Rattle.trace_reader.specs.declared.refusal.TraceKind.{TraceKind}
use Rattle.trace_reader.specs.declared.refusal.TraceKind.TheVariants as trace

-- memory was wanting
abbrev pub out_of_memory : List ℕ
out_of_memory = codes "out of memory" ++ newline

-- a message about line n of a trace
abbrev pub in_line : ℕ → List ℕ → List ℕ
in_line n message = codes "line " ++ decimal n ++ codes ": " ++ message ++ newline

-- a message about field i of line n
abbrev pub in_field : ℕ → ℕ → List ℕ → List ℕ
in_field n i message = in_line n (codes "field " ++ decimal i ++ codes ": " ++ message)

-- the line of each fault of a trace
abbrev pub kind_text : ℕ → TraceKind → List ℕ
kind_text n trace.Empty = in_line n (codes "no header")
kind_text n (trace.BadName i) = in_field n i (codes "bad name")
kind_text n (trace.SameName i) = in_field n i (codes "same name")
kind_text n (trace.TooManyColumns k) = in_line n (decimal k ++ codes " columns")
kind_text n (trace.BadMode i) = in_field n i (codes "bad mode")
kind_text n trace.LineTooLong = in_line n (codes "line too long")
kind_text n (trace.BadNumber i) = in_field n i (codes "bad number")
kind_text n (trace.WrongCount k) = in_line n (decimal k ++ codes " fields")
kind_text n trace.TimeNotRising = in_line n (codes "time not rising")
kind_text n (trace.OutOfRange i) = in_field n i (codes "out of range")
kind_text n trace.NoRows = in_line n (codes "no rows")
kind_text n trace.TooManyRows = in_line n (codes "too many rows")
kind_text n trace.TooManyLines = in_line n (codes "too many lines")

-- the line of the first fault
abbrev pub trace_fault_text : TraceRefusal → List ℕ
trace_fault_text r = kind_text r.line r.kind

-- the line of a column that the header lacks
abbrev pub unknown_text : ℕ → List ℕ → List ℕ
unknown_text n name = in_line n (codes "unknown column " ++ name)

-- the line of a formula that does not fit the ticks of the header in line n
abbrev pub unit_fault_text : ℕ → UnitFault → List ℕ
unit_fault_text n (unit.Constant i) = in_line n (codes "node " ++ decimal i ++ codes ": constant out of range")
unit_fault_text n (unit.Reach sum) = in_line n (codes "bounds sum to " ++ decimal sum)
unit_fault_text n unit.Memory = out_of_memory

-- the line of the first fault of the bytes
abbrev pub fault_text : Fault → List ℕ
fault_text (of_trace r) = trace_fault_text r
fault_text (unknown n atom term name) = unknown_text n name
fault_text (of_unit n fault) = unit_fault_text n fault
