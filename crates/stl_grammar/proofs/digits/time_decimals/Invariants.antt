use Rattle.std.proofs.Common.{◌≡◌, drop, max}
use Rattle.stl_grammar.specs.Building.{time_decimals}
use Rattle.stl_grammar.proofs.digits.time_decimals.Given as goal

abbrev pub invariant-loop-i : goal.invariant-loop-i
invariant-loop-i l = max l.digits (time_decimals (drop l.i l.tokens)) ≡ time_decimals l.tokens
