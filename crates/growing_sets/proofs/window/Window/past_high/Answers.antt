use Rattle.std.proofs.Common.{◌≡◌, ◌∙◌, ap, subst, sym, neg_ℤ, to_z, of_z}
use Rattle.std.specs.Int.{w64}
use Rattle.rational.specs.Rational.{FitsFloor, add, whole}
use Rattle.frac128.specs.Value.{value}
use Rattle.rational.specs.Places.{moved_begin, Same}
use Rattle.frac128.specs.Cuts.{place}
use Rattle.rational.proofs.PlaceLemmas.{after_same, same_places}
use Rattle.rational.proofs.Mixed.{move_fits}
use Rattle.time_sets.proofs.WindowPlaces.{ends_past}
use Rattle.growing_sets.proofs.WindowLemmas.{near_fits}
use Rattle.growing_sets.proofs.window.Window.past_high.Goals as goal

pub shift_begin-requires : goal.shift_begin-requires
shift_begin-requires c =
    subst (λ k. FitsFloor w64 (add (value c.args.cut.now.time) (whole k))) (sym (near_fits c.minus.result c.minus.ensures.near))
    (move_fits (value c.args.cut.now.time) c.minus.result c.requires c.minus.ensures.near)

pub returns : goal.returns
returns c t =
    let w = c.args.self.now in
    let cut = place c.args.cut.now in
    let moved = moved_begin (neg_ℤ w.high) w.high_in cut in
    let by : to_z w64 (of_z w64 c.minus.result) ≡ neg_ℤ w.high =
    near_fits c.minus.result c.minus.ensures.near ∙ c.minus.ensures.value ∙ ap neg_ℤ (near_fits w.high w.far) in
    let s : Same (place c.shift_begin.result) moved = subst (λ k. Same (place c.shift_begin.result) (moved_begin k w.high_in cut)) by c.shift_begin.ensures in (
      λ a. (ends_past w.high w.high_in cut t).0 (after_same (place c.shift_begin.result) moved t s a),
      λ b. after_same moved (place c.shift_begin.result) t (same_places s) ((ends_past w.high w.high_in cut t).1 b),
    )
