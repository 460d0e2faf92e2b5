use Rattle.std.proofs.Common.{◌≡◌, Some, None, sym, ◌∙◌, subst}
use Rattle.frac128.specs.Cuts.{place}
use Rattle.pl_signal.proofs.Values.{some_is}
use Rattle.pieces.specs.Hands.{GoesOnAs}
use Rattle.pieces.proofs.stream.continued.Goals as goal

pub returns-then-goes_on-clause-some : goal.returns-then-goes_on-clause-some
returns-then-goes_on-clause-some g c = (c.in-Some.is, c.goes_on.ensures.on c.if-goes_on.true)

pub returns-clause-none : goal.returns-clause-none
returns-clause-none g c e p is = subst (λ q. ¬ GoesOnAs g.P.Shape q (place c.args.met.now) c.args.piece.now) (some_is (sym c.in-Some.is ∙ is))
    (c.goes_on.ensures.not c.if-goes_on.false)

pub returns-in_default-clause-none : goal.returns-in_default-clause-none
returns-in_default-clause-none g c e p is = absurd (let z : None ≡ Some p = sym c.in_default.is ∙ is in cc)
