use Rattle.std.proofs.Common.{◌≡◌, drop}
use Rattle.stl_syntax.specs.Characters.{is_space, after_first}
use Rattle.trace_reader.proofs.field.trim_start.Given as goal

abbrev pub invariant-loop-i : goal.invariant-loop-i
invariant-loop-i l = after_first is_space l.text ≡ after_first is_space (drop l.i l.text)
