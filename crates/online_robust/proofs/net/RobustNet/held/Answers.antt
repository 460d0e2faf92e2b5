use Rattle.std.proofs.Common.{◌<◌, length, subst, sym}
use Rattle.online_robust.specs.Nets.{Parts, StandsFor, IsHeldBy}
use Rattle.online_robust.specs.contracts.net.RobustNet.{the_view}
use Rattle.online_robust.proofs.Standings.{held_by}
use Rattle.online_robust.proofs.net.RobustNet.held.Goals as goal

pub returns-clause-held : goal.returns-clause-held
returns-clause-held c nodes header past given st =
    let within = subst (λ (p : Parts). c.args.node < length p.stations) (sym c.self.view_is) c.requires in
    subst (IsHeldBy nodes header past (length given) c.args.node) (sym c.held.ensures)
    (held_by nodes header (the_view c.self.inside) past given
    (subst (λ (p : Parts). StandsFor nodes header p past given) (sym c.self.view_is) st) c.args.node within)
