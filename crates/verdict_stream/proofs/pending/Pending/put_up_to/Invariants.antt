use Rattle.std.proofs.Common.{length, List, ◌++◌}
use Rattle.stl_syntax.specs.declared.items.Verdict.{Verdict}
use Rattle.stl_syntax.specs.Texts.{AreVerdictLines}
use Rattle.answer_lines.specs.Appended.{Grew}
use Rattle.verdict_stream.specs.Pendings.{AreUpTo}
use Rattle.verdict_stream.proofs.pending.Pending.put_up_to.Given as goal

abbrev pub invariant-loop-verdict : goal.invariant-loop-verdict
invariant-loop-verdict l =
    (put : List Verdict) × Grew (AreVerdictLines l.scale put) (l.initial.text ++ l.initial.lines) (l.text ++ l.lines)
    × ((some left : List Verdict) → AreUpTo l.front l.self some left → AreUpTo l.front l.initial.self (put ++ some) left)

abbrev pub decreases-loop-verdict : goal.decreases-loop-verdict
decreases-loop-verdict l = length l.self
