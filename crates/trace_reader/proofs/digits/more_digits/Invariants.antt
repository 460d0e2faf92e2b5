use Rattle.std.proofs.Common.{◌≡◌, ◌<◌, ◌+◌, ◌^◌, take, true}
use Rattle.stl_syntax.specs.Characters.{is_digit, all, decimal_value}
use Rattle.trace_reader.proofs.digits.more_digits.Given as goal

abbrev pub invariant-loop-len : goal.invariant-loop-len
invariant-loop-len l = (all is_digit (take l.len l.text) ≡ true) × (l.value ≡ decimal_value l.before (take l.len l.text)) × (l.value < 10 ^ (l.len + 9))
