use Rattle.std.proofs.Common.{◌≡◌, ◌≤◌, ◌+◌, length, drop}
use Rattle.std.specs.Prelude.{option_copied, Some, All, nat_abs}
use Rattle.trace_reader.specs.LineParts.{fields_of}
use Rattle.trace_reader.specs.RowLines.{AreValuesLeft}
use Rattle.trace_reader.proofs.HeadingLemmas.{after_first_field}
use Rattle.trace_reader.proofs.room.Heading.read_fields.Given as goal

abbrev pub invariant-loop-most : goal.invariant-loop-most
invariant-loop-most l = record {
  left : AreValuesLeft l.self.scale l.self.heading.digits (after_first_field (fields_of (Some l.text))) l.place
      (drop l.most-index l.self.heading.digits) (fields_of (option_copied l.left)) l.row.values;
  place : l.place ≡ l.most-index + 2;
  count : length (fields_of (option_copied l.left)) + l.most-index + 1 ≡ length (fields_of (Some l.text));
  width : length l.row.values ≡ l.most-index;
  time : l.row.time ≡ l.initial.row.time;
  small : All (λ v. nat_abs v ≤ 16777216) l.row.values;
}
