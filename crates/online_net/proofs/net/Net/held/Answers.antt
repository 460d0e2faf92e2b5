use Rattle.std.proofs.Common.{◌<◌, length, sym, subst, arith}
use Rattle.online_net.specs.Nets.{Parts}
use Rattle.online_net.specs.contracts.net.Net.{the_view}
use Rattle.online_net.proofs.net.Net.held.Goals as goal

pub held-requires : goal.held-requires
held-requires c =
    let net : Parts = the_view c.self.inside in
    let w = c.self.invariant.0 c.if-self.false in
    let l : c.args.node < length c.self.inside.operators.items = (subst (λ (p : Parts). c.args.node < length p.operators) (sym c.self.view_is) c.requires) in
    let d = w.3.holds.operators in
    let e = w.3.holds.edges in
    omega (arith, l, d, e)
