use Rattle.std.proofs.Common.{◌≡◌, ◌∙◌, ap, subst, sym, neg_ℤ, to_z, of_z}
use Rattle.std.specs.Int.{w64}
use Rattle.rational.specs.Rational.{FitsFloor, add, whole}
use Rattle.frac128.specs.Value.{value}
use Rattle.rational.specs.Places.{moved_end, Same}
use Rattle.frac128.specs.Cuts.{place}
use Rattle.rational.proofs.PlaceLemmas.{upto_same, same_places}
use Rattle.rational.proofs.Mixed.{move_fits}
use Rattle.time_sets.proofs.WindowPlaces.{begins_before}
use Rattle.growing_sets.proofs.WindowLemmas.{near_fits}
use Rattle.growing_sets.proofs.window.Window.before_low.Goals as goal

pub shift_end-requires : goal.shift_end-requires
shift_end-requires c =
    subst (λ k. FitsFloor w64 (add (value c.args.cut.now.time) (whole k))) (sym (near_fits c.minus.result c.minus.ensures.near))
    (move_fits (value c.args.cut.now.time) c.minus.result c.requires.within c.minus.ensures.near)

pub returns : goal.returns
returns c t =
    let w = c.args.self.now in
    let cut = place c.args.cut.now in
    let moved = moved_end (neg_ℤ c.args.low) w.low_in cut in
    let by : to_z w64 (of_z w64 c.minus.result) ≡ neg_ℤ c.args.low =
    near_fits c.minus.result c.minus.ensures.near ∙ c.minus.ensures.value ∙ ap neg_ℤ (near_fits c.args.low c.requires.near) in
    let s : Same (place c.shift_end.result) moved = subst (λ k. Same (place c.shift_end.result) (moved_end k w.low_in cut)) by c.shift_end.ensures in (
      λ a. (begins_before c.args.low w.low_in cut t).0 (upto_same (place c.shift_end.result) moved t s a),
      λ b. upto_same moved (place c.shift_end.result) t (same_places s) ((begins_before c.args.low w.low_in cut t).1 b),
    )
