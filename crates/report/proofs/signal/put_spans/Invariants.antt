use Rattle.std.proofs.Common.{◌≡◌, ◌-◌, ◌++◌, ℕ, true, false, List}
use Rattle.stl_syntax.specs.declared.items.Verdict.{Verdict}
use Rattle.answer_lines.specs.Appended.{Grew, AreEach}
use Rattle.report.specs.VerdictForms.{IsEntry}
use Rattle.report.proofs.Advances.{IsSpelledTo}
use Rattle.report.proofs.signal.put_spans.Given as goal

abbrev pub invariant-loop-i : goal.invariant-loop-i
invariant-loop-i l =
    (verdicts : List Verdict) × IsSpelledTo l.s (l.i - 1) verdicts l.span
    × Grew (AreEach (IsEntry true false l.scale) verdicts) l.initial.text (l.text ++ l.entries)
    × ((front : List ℕ) × (l.text ≡ l.initial.text ++ front))
