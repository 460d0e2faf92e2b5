use Rattle.std.proofs.Common.{◌≡◌, ◌∙◌, ap, sym, subst, to_z, of_z}
use Rattle.std.specs.Int.{w64}
use Rattle.std.proofs.lemmas.Int.{to_z-of_z}
use Rattle.rational.specs.Rational.{whole}
use Rattle.stl_syntax.specs.Truth.{compares}
use Rattle.atom_lines.specs.Gaps.{AreOfSign}
use Rattle.atom_lines.proofs.ValueLimits.{one_sign}
use Rattle.atom_lines.proofs.truth.truth_onward.Goals as goal

pub returns-then-keeps_sign-clause-tells : goal.returns-then-keeps_sign-clause-tells
returns-then-keeps_sign-clause-tells c = λ t a b.
    let g = c.args.gap.now in
    let then : to_z w64 (of_z w64 c.args.next) ≡ c.args.next = to_z-of_z w64 c.args.next c.ranges.next in
    let last : c.truth_at-last.result.holds ≡ compares c.args.rel (whole c.args.next) =
    c.truth_at-last.ensures ∙ ap (λ n. compares c.args.rel (whole n)) then in
    (one_sign g c.args.next c.args.rel (subst (AreOfSign g) then (c.keeps_sign.ensures c.if-keeps_sign.true))).1 t a b ∙ sym last
