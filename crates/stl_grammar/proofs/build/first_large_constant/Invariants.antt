use Rattle.std.proofs.Common.{◌≡◌, take, false}
use Rattle.std.specs.Prelude.{All}
use Rattle.stl_grammar.specs.Building.{is_large}
use Rattle.stl_grammar.specs.Drafts.{nodes_in}
use Rattle.stl_grammar.proofs.build.first_large_constant.Given as goal

abbrev pub invariant-loop-i : goal.invariant-loop-i
invariant-loop-i l = All (λ n. is_large n ≡ false) (nodes_in l.scale (take l.i l.drafts))
