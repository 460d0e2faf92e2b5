use Rattle.std.proofs.Common.{◌≡◌, drop}
use Rattle.stl_syntax.specs.Characters.{goes_on_word, all}
use Rattle.trace_reader.proofs.name.all_go_on.Given as goal

abbrev pub invariant-loop-c : goal.invariant-loop-c
invariant-loop-c l = all goes_on_word l.text ≡ all goes_on_word (drop l.c-index l.text)
