use Rattle.std.proofs.Common.{◌≡◌, take, min}
use Rattle.stl_syntax.specs.Characters.{decimal_value}
use Rattle.stl_grammar.proofs.number.value_after.Given as goal

abbrev pub invariant-loop-c : goal.invariant-loop-c
invariant-loop-c l = min l.sum 4294967296 ≡ min (decimal_value l.value (take l.c-index l.digits)) 4294967296
