use Rattle.std.proofs.Common.{sym, subst}
use Rattle.value_laws.specs.Members.{ShapeLaws}
use Rattle.pieces.specs.Chains.{Tells, stop}
use Rattle.pieces.specs.Over.{BasesOver}
use Rattle.pieces.specs.Windows.{BestOver}
use Rattle.pieces.proofs.NowOver.{now, bases_now, tells_now}
use Rattle.pieces.proofs.windows.best_over.Goals as goal

pub returns-then-is_now-clause-told : goal.returns-then-is_now-clause-told
returns-then-is_now-clause-told g c =
    let laws : ShapeLaws g.P.Shape = assumption g.met.P.Shape in
    subst (λ o. Tells g.P.Shape (BestOver g.P.Shape c.args.s.now o c.args.side) c.args.s.now.from (stop c.args.s.now) c.in_ok-copy.field-0)
    (sym (c.is_now.ensures c.if-is_now.true))
    (subst (λ r. Tells g.P.Shape (BestOver g.P.Shape c.args.s.now now c.args.side) c.args.s.now.from (stop c.args.s.now) r)
    (sym c.in_ok-copy.ensures) (tells_now g.P.Shape laws c.args.s.now c.len.ensures.normal c.args.side))

pub returns-then-is_now-clause-bases : goal.returns-then-is_now-clause-bases
returns-then-is_now-clause-bases g c =
    subst (λ o. BasesOver g.P.Shape c.args.s.now o c.in_ok-copy.field-0) (sym (c.is_now.ensures c.if-is_now.true))
    (subst (λ r. BasesOver g.P.Shape c.args.s.now now r) (sym c.in_ok-copy.ensures) (bases_now g.P.Shape c.args.s.now))
