use Rattle.std.proofs.Common.{◌≡◌, ◌≤◌, ◌*◌, take}
use Rattle.stl_syntax.specs.Limits.{reach}
use Rattle.stl_grammar.specs.Drafts.{nodes_in}
use Rattle.stl_grammar.proofs.build.total_reach.Given as goal

abbrev pub invariant-loop-draft : goal.invariant-loop-draft
invariant-loop-draft l = (l.sum ≡ reach (nodes_in l.scale (take l.draft-index l.drafts))) × (l.sum ≤ l.draft-index * 4294967295000000)
