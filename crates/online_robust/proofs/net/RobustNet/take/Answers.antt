use Rattle.std.proofs.Common.{◌-◌, List, arith, subst, sym}
use Rattle.stl_syntax.specs.Trace.{Header}
use Rattle.stl_syntax.specs.declared.node.Node.{Node}
use Rattle.online_robust.specs.Nets.{Parts, StandsFor, IsTaken}
use Rattle.online_robust.specs.Pasts.{Past}
use Rattle.online_robust.specs.contracts.net.RobustNet.{the_view}
use Rattle.online_robust.specs.declared.line.MarginLine.{MarginLine}
use Rattle.online_robust.proofs.Standings.{taken, taken_near, taken_stands}
use Rattle.online_robust.proofs.net.RobustNet.take.Goals as goal
use Rattle.online_robust.proofs.net.RobustNet.take.Goals.{After-take}

-- what the take leaves
left : (c : After-take) (nodes : List Node) (header : Header) (past : Past) (given : List MarginLine)
    → StandsFor nodes header (the_view c.self.inside) past given
    → IsTaken nodes header past given (record (the_view c.self.inside) { edges = c.take.new.self }) c.take.result
left c nodes header past given st =
    taken nodes header (the_view c.self.inside) past given st (c.len.result - 1)
    (omega arith) c.take.new.self c.take.ensures.taken c.take.ensures.start c.take.result c.take.ensures.first

pub invariant_of-self : goal.invariant_of-self
invariant_of-self c running =
    let (nodes, header, past, given, st) = c.self.invariant c.if-self.false in
    let (more, stands) =
    taken_stands nodes header (the_view c.self.inside) past given st (record (the_view c.self.inside) { edges = c.take.new.self }) c.take.result
    (left c nodes header past given st) in
    (nodes, header, past, more, stands)

pub returns-clause-taken : goal.returns-clause-taken
returns-clause-taken c nodes header past given st =
    left c nodes header past given (subst (λ (p : Parts). StandsFor nodes header p past given) (sym c.self.view_is) st)

pub returns-clause-near : goal.returns-clause-near
returns-clause-near c =
    let (nodes, header, past, given, st) = c.self.invariant c.if-self.false in
    taken_near nodes header (the_view c.self.inside) past given st (record (the_view c.self.inside) { edges = c.take.new.self }) c.take.result
    (left c nodes header past given st)
