use Rattle.std.proofs.Common.{◌≡◌, drop}
use Rattle.stl_syntax.specs.Characters.{is_blank, all}
use Rattle.stl_grammar.proofs.text.is_empty.Given as goal

abbrev pub invariant-loop-c : goal.invariant-loop-c
invariant-loop-c l = all is_blank l.text ≡ all is_blank (drop l.c-index l.text)
