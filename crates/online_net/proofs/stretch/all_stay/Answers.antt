use Rattle.std.proofs.Common.{◌≡◌, inl, inr, length, Some, sym, subst, ◌∙◌, arith}
use Rattle.std.specs.Prelude.{slice_get}
use Rattle.std.proofs.lemmas.Bool.{cases_lt}
use Rattle.std.proofs.lemmas.Option.{slice_get_within, slice_get-get_or, same_Some}
use Rattle.online_net.specs.Stretches.{StaysFrom}
use Rattle.online_net.proofs.stretch.all_stay.Goals as goal

pub loop-i-init : goal.loop-i-init
loop-i-init c = λ i j l e. absurd (omega (arith, l))

pub stays-requires-clause-atom : goal.stays-requires-clause-atom
stays-requires-clause-atom c = c.requires.atoms c.loop-i.i _ (slice_get-get_or c.args.atoms.now c.loop-i.i 0 c.loop-i-test.true)

pub loop-i-preserved : goal.loop-i-preserved
loop-i-preserved c = λ k j less at.
    let atoms = c.args.atoms.now in
    let i = c.loop-i.i in
    elim (cases_lt k i) [
      | inl before ↦ c.loop-i.invariant k j before at
      | inr far ↦
          let e : k ≡ i = omega (arith, less, far) in
          let here = slice_get-get_or atoms i 0 c.loop-i-test.true in
          subst (λ m. StaysFrom c.args.bound.now m c.args.block.now c.args.at c.args.to)
          (same_Some _ j (sym here ∙ subst (λ m. slice_get atoms m ≡ Some j) e at)) (c.stays.ensures c.if-not-stays.false)
    ]

pub returns : goal.returns
returns c = λ yes i j at.
    let n : c.loop-i.i ≡ length c.args.atoms.now = (let a = c.loop-i.auto.i-end in let b = c.loop-i-test.false in omega (arith, a, b)) in
    let l = slice_get_within c.args.atoms.now i j at in
    c.loop-i.invariant i j (omega (arith, n, l)) at
