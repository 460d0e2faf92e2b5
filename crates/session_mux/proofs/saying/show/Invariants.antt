use Rattle.std.proofs.Common.{◌≡◌, take, ◌++◌}
use Rattle.std.specs.Prelude.{codes}
use Rattle.session_mux.specs.Saying.{prefixed_texts}
use Rattle.session_mux.proofs.saying.show.Given as goal

abbrev pub invariant-loop-place : goal.invariant-loop-place
invariant-loop-place l = l.out ≡ l.fn.out ++ prefixed_texts (l.tag ++ codes " ? ") (take l.place l.recent.items)
