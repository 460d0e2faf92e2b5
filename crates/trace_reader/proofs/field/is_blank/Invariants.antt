use Rattle.std.proofs.Common.{◌≡◌, drop}
use Rattle.stl_syntax.specs.Characters.{is_space, all}
use Rattle.trace_reader.proofs.field.is_blank.Given as goal

abbrev pub invariant-loop-c : goal.invariant-loop-c
invariant-loop-c l = all is_space l.text ≡ all is_space (drop l.c-index l.text)
