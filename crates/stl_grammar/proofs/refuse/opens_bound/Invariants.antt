use Rattle.std.proofs.Common.{◌≡◌, drop}
use Rattle.stl_syntax.specs.Characters.{is_blank, after_first}
use Rattle.stl_grammar.proofs.refuse.opens_bound.Given as goal

abbrev pub invariant-loop-c : goal.invariant-loop-c
invariant-loop-c l = after_first is_blank l.rest ≡ after_first is_blank (drop l.c-index l.rest)
