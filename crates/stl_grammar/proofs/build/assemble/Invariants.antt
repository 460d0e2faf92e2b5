use Rattle.std.proofs.Common.{◌≡◌, ◌++◌, length, reverse}
use Rattle.stl_grammar.specs.Drafts.{nodes_in}
use Rattle.stl_grammar.proofs.build.assemble.Given as goal

abbrev pub invariant-loop-draft : goal.invariant-loop-draft
invariant-loop-draft l = l.builder ++ nodes_in l.scale (reverse l.drafts.items) ≡ nodes_in l.scale (reverse l.initial.drafts.items)

abbrev pub decreases-loop-draft : goal.decreases-loop-draft
decreases-loop-draft l = length l.drafts.items
