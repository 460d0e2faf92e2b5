use Rattle.std.proofs.Common.{◌≡◌, take, true}
use Rattle.stl_syntax.specs.Characters.{is_digit, all}
use Rattle.stl_grammar.proofs.chars.digits_len.Given as goal

abbrev pub invariant-loop-i : goal.invariant-loop-i
invariant-loop-i l = all is_digit (take l.i l.text) ≡ true
