use Rattle.std.proofs.Common.{◌≡◌, ◌≤◌, ◌<◌, ◌⊎◌, ◌+◌, ◌-◌, List, length}
use Rattle.rational.specs.Time.{◌≈◌}
use Rattle.frac128.specs.Value.{value}
use Rattle.time_sets.specs.Turns.{place}
use Rattle.time_sets.specs.Spans.{border}
use Rattle.stl_syntax.specs.Texts.{AreVerdictLines}
use Rattle.stl_syntax.specs.declared.items.Verdict.{Verdict}
use Rattle.std.specs.Prelude.{IfSome}
use Rattle.answer_lines.specs.Appended.{Grew}
use Rattle.answer_lines.specs.Rooms.{IsTextAt}
use Rattle.verdict_sets.specs.Telling.{AreVerdictsFrom}
use Rattle.verdict_sets.proofs.lines.ToldLinesLeft.put_some.Given as goal

abbrev pub invariant-loop-last : goal.invariant-loop-last
invariant-loop-last l = record {
  from : value l.from ≈ (place (border l.self.judged.on l.self.judged.times l.next)).at;
  within : l.next ≤ length l.self.judged.times.turns.items + 1;
  some : (l.room ≡ l.initial.room) ⊎ (l.initial.next < l.next);
  lines : (verdicts : List Verdict) × (l.initial.next + length verdicts ≡ l.next) × AreVerdictsFrom l.self.judged l.initial.next verdicts
      × Grew (AreVerdictLines l.self.scale verdicts) l.initial.room l.room;
  last : IfSome l.last (IsTextAt l.self.scale.time (value l.from) l.room);
}

abbrev pub decreases-loop-last : goal.decreases-loop-last
decreases-loop-last l = length l.self.judged.times.turns.items + 1 - l.next
