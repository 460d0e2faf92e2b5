use Rattle.std.proofs.Common.{◌≡◌, drop, max}
use Rattle.stl_grammar.specs.Building.{value_decimals}
use Rattle.stl_grammar.proofs.digits.value_decimals.Given as goal

abbrev pub invariant-loop-i : goal.invariant-loop-i
invariant-loop-i l = max l.digits (value_decimals (drop l.i l.tokens)) ≡ value_decimals l.tokens
