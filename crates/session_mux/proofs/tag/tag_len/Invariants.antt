use Rattle.std.proofs.Common.{◌≡◌, take, true}
use Rattle.stl_syntax.specs.Characters.{all}
use Rattle.session_mux.specs.Sessions.{is_tag_byte}
use Rattle.session_mux.proofs.tag.tag_len.Given as goal

abbrev pub invariant-loop-i : goal.invariant-loop-i
invariant-loop-i l = all is_tag_byte (take l.i l.line) ≡ true
