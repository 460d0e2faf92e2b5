use Rattle.std.proofs.Common.{◌-◌, length}
use Rattle.report.proofs.JsonItems.{AreEntriesTo}
use Rattle.report.proofs.json.put_later_items.Given as goal

abbrev pub invariant-loop-i : goal.invariant-loop-i
invariant-loop-i l = AreEntriesTo l.scale l.formula l.items l.from l.initial.text l.i l.text

abbrev pub decreases-loop-i : goal.decreases-loop-i
decreases-loop-i l = length l.items - l.i
