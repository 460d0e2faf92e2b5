use Rattle.std.proofs.Common.{rules, to_z, of_z, w64, ◌≡◌, sym, subst, pos, true}
use Rattle.rational.specs.Rational.{whole}
use Rattle.frac128.specs.Spans.{interval}
use Rattle.rational.specs.Places.{Place, begins, Before, Same}
use Rattle.frac128.specs.Cuts.{place}
use Rattle.rational.proofs.PlaceLemmas.{before_same, same_places}
use Rattle.verdict_stream.specs.Pendings.{just_after}
use Rattle.verdict_stream.proofs.pending.begins_by.Goals as goal

pub returns : goal.returns
returns c =
    let e : to_z w64 (of_z w64 c.from.result) ≡ pos c.args.front = search rules in
    let at : Same (place c.after_whole.result) (just_after c.args.front) =
    subst (λ z. Same (place c.after_whole.result) (record { at = whole z; after = true })) e c.after_whole.ensures in
    let begin = c.begin.ensures in (
      λ t. before_same (begins (interval c.args.verdict.now.on)) (place c.after_whole.result) (just_after c.args.front)
          (subst (λ (x : Place). Before x (place c.after_whole.result)) begin (c.precedes.ensures.0 t)) at,
      λ h. c.precedes.ensures.1 (subst (λ (x : Place). Before x (place c.after_whole.result)) (sym begin)
          (before_same (begins (interval c.args.verdict.now.on)) (just_after c.args.front) (place c.after_whole.result) h (same_places at))),
    )
