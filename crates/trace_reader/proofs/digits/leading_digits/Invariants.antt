use Rattle.std.proofs.Common.{◌≡◌, take, min, true}
use Rattle.stl_syntax.specs.Characters.{is_digit, all, decimal_value}
use Rattle.trace_reader.proofs.digits.leading_digits.Given as goal

abbrev pub invariant-loop-i : goal.invariant-loop-i
invariant-loop-i l = (all is_digit (take l.i l.text) ≡ true) × (min l.value 4294967296 ≡ min (decimal_value 0 (take l.i l.text)) 4294967296)
