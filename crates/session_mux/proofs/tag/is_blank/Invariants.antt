use Rattle.std.proofs.Common.{◌≡◌, drop}
use Rattle.stl_syntax.specs.Characters.{is_space, all}
use Rattle.session_mux.proofs.tag.is_blank.Given as goal

abbrev pub invariant-loop-byte : goal.invariant-loop-byte
invariant-loop-byte l = all is_space l.line ≡ all is_space (drop l.byte-index l.line)
