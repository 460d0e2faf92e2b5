use Rattle.std.proofs.Common.{◌-◌, length}
use Rattle.report.proofs.WritingItems.{AreWrittenTo}
use Rattle.report.proofs.items.put_items.Given as goal

abbrev pub invariant-loop-i : goal.invariant-loop-i
invariant-loop-i l = AreWrittenTo l.scale l.formula l.items l.initial.text l.i l.text

abbrev pub decreases-loop-i : goal.decreases-loop-i
decreases-loop-i l = length l.items - l.i
