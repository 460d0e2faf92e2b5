use Rattle.std.proofs.Common.{rules, to_z, of_z, w64, ◌≡◌, sym, subst, pos, true}
use Rattle.rational.specs.Rational.{whole}
use Rattle.frac128.specs.Spans.{interval}
use Rattle.rational.specs.Places.{Place, ends, Before, Same}
use Rattle.frac128.specs.Cuts.{place}
use Rattle.rational.proofs.PlaceLemmas.{same_before, same_places}
use Rattle.verdict_stream.specs.Pendings.{just_after}
use Rattle.verdict_stream.proofs.pending.goes_beyond.Goals as goal

pub returns : goal.returns
returns c =
    let e : to_z w64 (of_z w64 c.from.result) ≡ pos c.args.front = search rules in
    let at : Same (place c.after_whole.result) (just_after c.args.front) =
    subst (λ z. Same (place c.after_whole.result) (record { at = whole z; after = true })) e c.after_whole.ensures in
    let end = c.end.ensures in (
      λ t. same_before (just_after c.args.front) (place c.after_whole.result) (ends (interval c.args.verdict.now.on)) (same_places at)
          (subst (λ (x : Place). Before (place c.after_whole.result) x) end (c.precedes.ensures.0 t)),
      λ h. c.precedes.ensures.1 (subst (λ (x : Place). Before (place c.after_whole.result) x) (sym end)
          (same_before (place c.after_whole.result) (just_after c.args.front) (ends (interval c.args.verdict.now.on)) at h)),
    )
