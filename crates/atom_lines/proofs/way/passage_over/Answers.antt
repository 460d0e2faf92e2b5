use Rattle.std.proofs.Common.{rules, ◌≡◌, ◌≢◌, ◌∙◌, ap, sym, pos, ◌+ℤ◌, Bool, true, false, refl, to_z, of_z}
use mathlib.Core.Bool.{beq}
use Rattle.std.specs.Int.{w64}
use Rattle.std.proofs.lemmas.Int.{to_z-of_z}
use Rattle.std.proofs.lemmas.Bool.{true≢false}
use Rattle.rational.specs.Rational.{whole}
use Rattle.stl_syntax.specs.Truth.{compares}
use Rattle.atom_lines.specs.Gaps.{Passes}
use Rattle.atom_lines.specs.Passages.{crossing_time}
use Rattle.atom_lines.proofs.Crossings.{turn_at, one_truth}
use Rattle.atom_lines.proofs.WayLemmas.{turning_of}
use Rattle.atom_lines.proofs.way.passage_over.Goals as goal

alike : (a b : Bool) → beq a b ≡ true → a ≡ b
alike true true e = refl
alike true false e = absurd (true≢false (sym e))
alike false true e = absurd (true≢false (sym e))
alike false false e = refl

apart : (a b : Bool) → beq a b ≡ false → a ≢ b
apart true true e h = true≢false e
apart true false e h = true≢false h
apart false true e h = true≢false (sym h)
apart false false e h = true≢false e

pub returns-then-changes_sign : goal.returns-then-changes_sign
returns-then-changes_sign c =
    let g = c.args.gap.now in
    let from : to_z w64 (of_z w64 g.from) ≡ g.from = search (rules, to_z-of_z) in
    let before : c.holds-before.result ≡ compares c.args.rel (whole g.from) =
    c.holds-before.ensures ∙ c.truth_at.ensures ∙ ap (λ n. compares c.args.rel (whole n)) from in
    let point : c.holds-point.result ≡ compares c.args.rel (whole (pos 0)) = c.holds-point.ensures ∙ c.truth_at-then-changes_sign.ensures in
    let x = crossing_time c.turning.result in
    turning_of g c.args.rel x c.holds-before.result c.holds-point.result (beq c.holds-point.result c.holds-before.result)
    (turn_at g c.args.rel x (c.changes_sign.ensures.0 c.if-changes_sign.true) c.turning.ensures) before point
    (alike c.holds-point.result c.holds-before.result) (apart c.holds-point.result c.holds-before.result)

pub returns : goal.returns
returns c = λ t a b.
    let g = c.args.gap.now in
    let stays : ¬ Passes g = λ p. true≢false (sym (c.changes_sign.ensures.1 p) ∙ c.if-changes_sign.false) in
    let sum : c.truth_at-2.result.holds ≡ compares c.args.rel (whole (g.from +ℤ g.to)) = search (rules, to_z-of_z) in
    one_truth g c.args.rel t stays a b ∙ sym sum ∙ sym c.holds.ensures
