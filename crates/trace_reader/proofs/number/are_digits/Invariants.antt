use Rattle.std.proofs.Common.{◌≡◌, drop}
use Rattle.stl_syntax.specs.Characters.{is_digit, all}
use Rattle.trace_reader.proofs.number.are_digits.Given as goal

abbrev pub invariant-loop-c : goal.invariant-loop-c
invariant-loop-c l = all is_digit l.text ≡ all is_digit (drop l.c-index l.text)
