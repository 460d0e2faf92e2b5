use Rattle.std.proofs.Common.{◌^◌, true, false, subst, ℤ, lit≤}
use Rattle.std.specs.Int.{w64}
use Rattle.std.proofs.lemmas.Int.{to_z-of_z}
use Rattle.rational.specs.Rational.{whole}
use Rattle.rational.proofs.Order.{same_sym}
use Rattle.rational.proofs.Mixed.{within_same, within_more, within_whole}
use Rattle.rational.specs.Places.{Place, Same}
use Rattle.frac128.specs.Cuts.{place}
use Rattle.rational.proofs.PlaceLemmas.{same_before, before_same, same_places, room_of_before}
use Rattle.growing_sets.proofs.TickLemmas.{ticks_rise}
use Rattle.growing_sets.proofs.stretch.Stretch.over.Goals as goal

pub invariant_of-result : goal.invariant_of-result
invariant_of-result c =
    let from = place c.before_whole.result in
    let to = place c.after_whole.result in
    let first : Place = record { at = whole c.args.first; after = false } in
    let last : Place = record { at = whole c.args.last; after = true } in
    let begins : Same from first = subst (λ (k : ℤ). Same from (record { at = whole k; after = false }))
    (to_z-of_z w64 c.args.first c.ranges.first) c.before_whole.ensures in
    let ends : Same to last = subst (λ (k : ℤ). Same to (record { at = whole k; after = true }))
    (to_z-of_z w64 c.args.last c.ranges.last) c.after_whole.ensures in
    record {
      not_empty = room_of_before from to (same_before from first to begins
          (before_same first last to (ticks_rise c.args.first c.args.last c.requires.order) (same_places ends)));
      low = within_same (2 ^ 34) (same_sym begins.0) (within_more (2 ^ 33) (2 ^ 34) (lit≤ tt) (within_whole (2 ^ 33) c.args.first c.requires.near));
      high = within_same (2 ^ 34) (same_sym ends.0) (within_more (2 ^ 33) (2 ^ 34) (lit≤ tt) (within_whole (2 ^ 33) c.args.last c.requires.far));
    }
