use Rattle.std.proofs.Common.{length, List, ◌++◌}
use Rattle.stl_syntax.specs.declared.items.Verdict.{Verdict}
use Rattle.verdict_stream.specs.Pendings.{AreUpTo}
use Rattle.verdict_stream.proofs.pending.Pending.let_go_up_to.Given as goal

abbrev pub invariant-loop-verdict : goal.invariant-loop-verdict
invariant-loop-verdict l =
    (gone : List Verdict) × ((some left : List Verdict) → AreUpTo l.front l.self some left → AreUpTo l.front l.initial.self (gone ++ some) left)

abbrev pub decreases-loop-verdict : goal.decreases-loop-verdict
decreases-loop-verdict l = length l.self
