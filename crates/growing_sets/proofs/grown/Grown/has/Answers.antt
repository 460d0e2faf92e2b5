use Rattle.std.proofs.Common.{◌≡◌, true, false, refl, subst, ℤ}
use Rattle.std.specs.Int.{w64}
use Rattle.std.proofs.lemmas.Int.{to_z-of_z}
use Rattle.rational.specs.Rational.{whole}
use Rattle.rational.specs.Places.{Same}
use Rattle.frac128.specs.Cuts.{place}
use Rattle.growing_sets.proofs.RunLemmas.{one_of, on_one}
use Rattle.growing_sets.proofs.TickLemmas.{at_time, from_time}
use Rattle.growing_sets.proofs.grown.Grown.has.Goals as goal

pub returns-in-Some : goal.returns-in-Some
returns-in-Some c =
    let s = c.in-Some.field-0 in
    let found = c.in-Some.ensures.some in
    let cut = place c.before_whole.result in
    let is = subst (λ (k : ℤ). Same cut (record { at = whole k; after = false })) (to_z-of_z w64 c.args.tick c.ranges.tick) c.before_whole.ensures in
    (λ h. on_one c.args.self.now.spans.items s (whole c.args.tick) found.0 (at_time s cut (whole c.args.tick) is found.1), λ h. refl)

pub returns-in-None : goal.returns-in-None
returns-in-None c =
    let cut = place c.before_whole.result in
    let is = subst (λ (k : ℤ). Same cut (record { at = whole k; after = false })) (to_z-of_z w64 c.args.tick c.ranges.tick) c.before_whole.ensures in (
      λ h. absurd (let x : false ≡ true = h in cc),
      λ h.
          let s = one_of c.args.self.now.spans.items (whole c.args.tick) h in
          absurd (c.in-None.ensures.none s.0 s.1 (from_time s.0 cut (whole c.args.tick) is s.2)),
    )
