use Rattle.std.proofs.Common.{◌≡◌, ◌/◌, ◌∙◌, sym, arith}
use Rattle.std.proofs.lemmas.Cmp.{ranked}
use Rattle.std.specs.declared.cmp.Ordering.TheVariants.{Equal}
use Rattle.frac128.proofs.Rests.{by_quotients, by_rests, by_zero}
use Rattle.frac128.proofs.arith.cmp_rests.Goals as goal
use Rattle.frac128.proofs.arith.cmp_rests.Goals.{then-loop-top-test+else-other_top-ne0, else-loop-top-test}

pub loop-top-preserved : goal.loop-top-preserved
loop-top-preserved c =
    let l = c.loop-top in
    let e : l.other_bottom / l.other_top ≡ l.bottom / l.top = ranked _ _ Equal (sym c.in-Equal.is ∙ c.cmp.ensures) in
    record { below = omega arith; other_below = omega arith; same = by_rests l.top l.bottom l.other_top l.other_bottom e ∙ l.invariant.same }

pub returns-in_default : goal.returns-in_default
returns-in_default c =
    let l = c.loop-top in
    by_quotients l.top l.bottom l.other_top l.other_bottom _ (omega arith) (omega arith) c.cmp.ensures c.in_default.not-Equal ∙ l.invariant.same

pub returns : goal.returns
returns c =
    let l = c.loop-top in
    by_zero l.top l.bottom l.other_top l.other_bottom _ (omega arith) (omega arith)
    (elim c.loop-top-test.branch [ then-loop-top-test+else-other_top-ne0 w ↦ omega arith | else-loop-top-test w ↦ omega arith ])
    c.cmp-2.ensures
    ∙ l.invariant.same
