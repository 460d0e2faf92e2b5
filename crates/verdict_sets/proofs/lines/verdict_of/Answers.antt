-- A stretch has a time.
use Rattle.std.proofs.Common.{sym}
use Rattle.rational.specs.Places.{Place}
use Rattle.rational.proofs.Order.{same_sym}
use Rattle.rational.proofs.PlaceLemmas.{same_before, before_same, room_of_before}
use Rattle.frac128.specs.Value.{value}
use Rattle.time_sets.specs.Turns.{place}
use Rattle.verdict_sets.proofs.lines.verdict_of.Goals as goal

pub invariant_of-result : goal.invariant_of-result
invariant_of-result c =
    let d = c.args.stretch.now in
    let from : Place = record { at = value c.args.from; after = c.is_after.result } in
    let to : Place = record { at = value c.time.result; after = c.is_after-2.result } in
    record {
      not_empty = room_of_before from to (same_before from (place d.from) to (c.requires.from, c.is_after.ensures)
          (before_same (place d.from) (place d.to) to c.requires.order (same_sym c.time.ensures, sym c.is_after-2.ensures)));
    }
