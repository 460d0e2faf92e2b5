use Rattle.std.proofs.Common.{◌≡◌, ◌≤◌, take, min}
use Rattle.stl_syntax.specs.Characters.{decimal_value}
use Rattle.trace_reader.proofs.number.go_on.Given as goal

abbrev pub invariant-loop-byte : goal.invariant-loop-byte
invariant-loop-byte l =
    (min l.sum 4294967296 ≡ min (decimal_value l.value (take l.byte-index l.digits)) 4294967296) × (l.sum ≤ 42949672969)
