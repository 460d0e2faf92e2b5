use Rattle.std.proofs.Common.{◌≡◌, ◌<◌, ◌≤◌, ◌+◌, ◌*◌, length, take}
use Rattle.std.specs.Prelude.{All, nat_abs}
use Rattle.trace_reader.proofs.PlainLemmas.{IsPlainFront}
use Rattle.trace_reader.proofs.room.Heading.read_plain.Given as goal

abbrev pub invariant-loop-most : goal.invariant-loop-most
invariant-loop-most l = record {
  front : IsPlainFront l.self.scale l.self.heading (take l.at l.piece) l.most-index l.row;
  within : l.at < length l.piece;
  short : l.at ≤ 18 * l.most-index + 17;
  width : length l.row.values ≡ l.most-index;
  time : l.row.time ≤ 4294967295;
  small : All (λ v. nat_abs v ≤ 16777216) l.row.values;
}
