use Rattle.std.proofs.Common.{◌-◌, arith, subst, sym}
use Rattle.std.specs.Option.{option_copied}
use Rattle.std.specs.Prelude.{IfNone, IfSome}
use Rattle.online_robust.specs.Nets.{AreAllGiven, IsNear, Parts, StandsFor}
use Rattle.online_robust.specs.contracts.net.RobustNet.{the_view}
use Rattle.online_robust.proofs.Standings.{all_given, next_near}
use Rattle.online_robust.proofs.net.RobustNet.next.Goals as goal

pub returns-clause-near : goal.returns-clause-near
returns-clause-near c =
    let (nodes, header, past, given, st) = c.self.invariant c.if-self.false in
    subst (λ o. IfSome o IsNear) (sym c.ahead.ensures) (next_near nodes header (the_view c.self.inside) past given st (c.len.result - 1) (omega arith))

pub returns-clause-all : goal.returns-clause-all
returns-clause-all c nodes header past given st =
    subst (λ (p : Parts). IfNone (option_copied c.ahead.result) (AreAllGiven nodes header past given p)) c.self.view_is
    (subst (λ o. IfNone o (AreAllGiven nodes header past given (the_view c.self.inside))) (sym c.ahead.ensures)
    (all_given nodes header (the_view c.self.inside) past given (subst (λ (p : Parts). StandsFor nodes header p past given) (sym c.self.view_is) st)
    (c.len.result - 1) (omega arith)))
