use Rattle.std.proofs.Common.{◌≡◌, true, false, w64, to_z, of_z, rules, to_z-of_z, ap, sym, ◌∙◌, eqb-true, eq-eqb}
use Rattle.frac128.proofs.Fractions.{eq_is}
use Rattle.frac128.proofs.frac.FracPartialEq.eq.Goals as goal
use Rattle.frac128.proofs.frac.FracPartialEq.eq.Goals.{then-self-other, else-self-other}

pub returns-then-self-other-2 : goal.returns-then-self-other-2
returns-then-self-other-2 c =
    let f = c.args.self.now in
    let g = c.args.other.now in
    let whole : to_z w64 (of_z w64 f.whole) ≡ f.whole = search (rules, to_z-of_z) in
    let other_whole : to_z w64 (of_z w64 g.whole) ≡ g.whole = search (rules, to_z-of_z) in
    elim c.if-self-other.branch [
      | then-self-other w ↦ eq_is f g _ (λ h. (
        sym whole ∙ ap (to_z w64) w.if-self-other.true ∙ other_whole,
        eqb-true f.rest g.rest (sym w.value-is ∙ c.if-self-other-2.true),
        eqb-true f.den g.den h,
      )) (λ h. eq-eqb f.den g.den h.2)
      | else-self-other w ↦ absurd (w.if-self-other.false (eqb-true (of_z w64 f.whole) (of_z w64 g.whole) (sym w.value-is ∙ c.if-self-other-2.true)))
    ]

pub returns-else-self-other-2 : goal.returns-else-self-other-2
returns-else-self-other-2 c =
    let f = c.args.self.now in
    let g = c.args.other.now in
    elim c.if-self-other.branch [
      | then-self-other w ↦ eq_is f g _ (λ h. absurd (let e : false ≡ true = sym c.if-self-other-2.false ∙ h in cc))
          (λ h. w.value-is ∙ eq-eqb f.rest g.rest h.1)
      | else-self-other w ↦ eq_is f g _ (λ h. absurd (let e : false ≡ true = sym c.if-self-other-2.false ∙ h in cc))
          (λ h. absurd (w.if-self-other.false (ap (of_z w64) h.0)))
    ]
