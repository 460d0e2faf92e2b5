use Rattle.std.proofs.Common.{length}
use Rattle.frac128.specs.Cuts.{place}
use Rattle.growing_sets.proofs.ShowingLemmas.{Dropped}
use Rattle.growing_sets.proofs.showing.drop_before.Given as goal

abbrev pub invariant-loop-first : goal.invariant-loop-first
invariant-loop-first l = Dropped (place l.cut) l.initial.spans.items l.spans.items

abbrev pub decreases-loop-first : goal.decreases-loop-first
decreases-loop-first l = length l.spans.items
