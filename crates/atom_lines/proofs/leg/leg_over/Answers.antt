use Rattle.std.proofs.Common.{rules, ◌≡◌, ◌∙◌, ◌+◌, suc, not, None, Some, ap, refl, to_z, of_z, arith}
use mathlib.Core.Bool.{beq}
use Rattle.std.specs.Int.{w64}
use Rattle.std.proofs.lemmas.Int.{to_z-of_z}
use Rattle.rational.specs.Time.{whole}
use Rattle.stl_syntax.specs.Truth.{compares}
use Rattle.atom_lines.proofs.WayLemmas.{read_next}
use Rattle.atom_lines.proofs.LegLemmas.{leg_is}
use Rattle.atom_lines.proofs.leg.leg_over.Goals as goal

pub returns-in_default-clause-leg : goal.returns-in_default-clause-leg
returns-in_default-clause-leg c = λ b i block r last here limit s.
    let k = c.args.atom.now in
    let at = c.args.stay.now.at in
    let gap = c.args.stay.now.step.gap in
    let next = c.args.stay.now.step.next in
    let begin : to_z w64 (of_z w64 gap.from) ≡ gap.from = search (rules, to_z-of_z) in
    let read = read_next k block at gap next limit s.step in
    leg_is b i k here block r last at c.args.next gap next
    (to_z w64 (of_z w64 next)) None c.holds-before.result c.holds-there.result c.holds-before.result
    (not (beq c.holds-there.result c.holds-before.result)) (record {
      count = let e : c.args.next ≡ suc at = omega (arith, c.requires) in e;
      limit = limit;
      stay = s;
      as_read = read;
      inside = c.in_default.ensures.inside;
      bends = c.in_default.ensures.bends;
      at_begin = c.holds-before.ensures ∙ c.truth_at.ensures ∙ ap (λ m. compares k.rel (whole m)) begin;
      at_end = c.holds-there.ensures ∙ c.truth_at-2.ensures ∙ ap (λ m. compares k.rel (whole m)) read;
      at_last = refl;
      leaps = refl;
    })

pub returns-clause-leg : goal.returns-clause-leg
returns-clause-leg c = λ b i block r last here limit s.
    let k = c.args.atom.now in
    let at = c.args.stay.now.at in
    let gap = c.args.stay.now.step.gap in
    let next = c.args.stay.now.step.next in
    let begin : to_z w64 (of_z w64 gap.from) ≡ gap.from = search (rules, to_z-of_z) in
    let read = read_next k block at gap next limit s.step in
    leg_is b i k here block r last at c.args.next gap next
    (to_z w64 (of_z w64 next)) (Some c.in-Some.turn) c.holds-before.result c.holds-there.result (not c.holds-before.result)
    (not (beq c.holds-there.result (not c.holds-before.result))) (record {
      count = let e : c.args.next ≡ suc at = omega (arith, c.requires) in e;
      limit = limit;
      stay = s;
      as_read = read;
      inside = c.in-Some.ensures.inside;
      bends = c.in-Some.ensures.bends;
      at_begin = c.holds-before.ensures ∙ c.truth_at.ensures ∙ ap (λ m. compares k.rel (whole m)) begin;
      at_end = c.holds-there.ensures ∙ c.truth_at-2.ensures ∙ ap (λ m. compares k.rel (whole m)) read;
      at_last = refl;
      leaps = refl;
    })
