use Rattle.std.proofs.Common.{[], ◌∷◌, ◌++◌, sym, ap, subst, ◌∙◌}
use Rattle.online_nodes.specs.Network.{close}
use Rattle.online_net.specs.Nets.{Parts, Stands}
use Rattle.online_net.proofs.Events.{closed_stands}
use Rattle.online_net.proofs.StillSteps.{close_may}
use Rattle.online_net.specs.contracts.net.Net.{the_view}
use Rattle.online_net.proofs.net.Net.close.Goals as goal

pub invariant_of-self : goal.invariant_of-self
invariant_of-self c = (
  (λ running.
      let net : Parts = the_view c.self.inside in
      let w = c.self.invariant.0 c.if-self.false in (
        w.0,
        w.1,
        w.2 ++ close ∷ [],
        closed_stands w.0 w.1 w.2 net w.3
            (close_may w.0 w.1 w.2 net w.3 c.if-self-2.false (λ e. c.requires (ap (λ (p : Parts). p.last) (sym c.self.view_is) ∙ e))),
      )),
  c.self.invariant.1,
)

pub returns-clause-stands : goal.returns-clause-stands
returns-clause-stands c nodes header events st =
    let net : Parts = the_view c.self.inside in
    let now : Stands nodes header net events = (subst (λ (p : Parts). Stands nodes header p events) (sym c.self.view_is) st) in
    closed_stands nodes header events net now
    (close_may nodes header events net now c.if-self-2.false (λ e. c.requires (ap (λ (p : Parts). p.last) (sym c.self.view_is) ∙ e)))
