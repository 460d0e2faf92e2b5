use Rattle.std.proofs.Common.{◌≡◌, drop}
use Rattle.session_mux.specs.Tags.{number_of}
use Rattle.session_mux.proofs.tag.number_of.Given as goal

abbrev pub invariant-loop-at : goal.invariant-loop-at
invariant-loop-at l = l.number ≡ number_of (drop l.at l.tag)
