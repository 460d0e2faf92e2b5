use Rattle.std.proofs.Common.{◌≡◌, ◌+◌, length}
use Rattle.std.specs.Prelude.{option_copied, Some}
use Rattle.trace_reader.specs.LineParts.{fields_of}
use Rattle.trace_reader.specs.Headings.{AreColumnsLeft}
use Rattle.trace_reader.proofs.HeadingLemmas.{after_first_field}
use Rattle.trace_reader.proofs.heading.read_heading.Given as goal

abbrev pub invariant-loop-place : goal.invariant-loop-place
invariant-loop-place l =
    (length (fields_of (option_copied l.left)) + l.place ≡ l.count + 1) × (length l.room.columns + 2 ≡ l.place)
    × AreColumnsLeft (after_first_field (fields_of (Some l.text))) l.place (fields_of (option_copied l.left)) l.room
