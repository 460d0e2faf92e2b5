use Rattle.std.proofs.Common.{◌≡◌, ◌∙◌, ap, sym, arith, FitsSigned, to_z, of_z, to_z-of_z, eqb-true, eq-eqb}
use Rattle.std.proofs.lemmas.Bool.{false≢true}
use Rattle.std.proofs.lemmas.Int.{fits_signed_from_abs}
use mir.Syntax.{w64, w128}
use Rattle.frac128.proofs.Plains.{other_rises}
use Rattle.frac128.proofs.RampDifferences.{one_line_by_offsets}
use Rattle.frac128.specs.declared.ramp.Ramp.{Ramp}
use Rattle.frac128.proofs.ramp.Ramp.same.Goals as goal

-- a rise fits 64 bits
fits : (f : Ramp) → FitsSigned w64 f.rise
fits f = let small = f.small_rise in fits_signed_from_abs w64 f.rise (omega (arith, small))

pub returns-then-self-other-2 : goal.returns-then-self-other-2
returns-then-self-other-2 c = (
  λ h. absurd (false≢true h),
  λ h. absurd (other_rises c.args.self.now c.args.other.now c.if-self-other.false (λ e. c.if-self-other-2.true (ap (λ z. of_z w64 z) e)) h),
)

pub returns : goal.returns
returns c =
    let f = c.args.self.now in
    let g = c.args.other.now in
    let rise : f.rise ≡ g.rise = sym (to_z-of_z (fits f)) ∙ ap (λ z. to_z w64 z) c.if-self-other-2.false ∙ to_z-of_z (fits g) in
    let first : FitsSigned w128 c.offset.result = record { sfits = c.offset.type_inv } in
    let second : FitsSigned w128 c.offset-2.result = record { sfits = c.offset-2.type_inv } in
    let is = one_line_by_offsets f g c.offset.result c.offset-2.result c.if-self-other.false rise c.offset.ensures.value c.offset-2.ensures.value in
    let x = of_z w128 c.offset.result in
    let y = of_z w128 c.offset-2.result in (
      λ h. is.0 (sym (to_z-of_z first) ∙ ap (λ z. to_z w128 z) (eqb-true x y h) ∙ to_z-of_z second),
      λ h. eq-eqb x y (ap (λ z. of_z w128 z) (is.1 h)),
    )
