use Rattle.std.proofs.Common.{◌≡◌, ◌≢◌, ◌∙◌, None, true, false, length, ap, refl, sym, subst}
use Rattle.std.specs.Prelude.{IfSome}
use Rattle.online_robust.specs.Pasts.{with_end}
use Rattle.online_robust.specs.Nets.{Parts, StandsFor}
use Rattle.online_robust.specs.contracts.net.RobustNet.{the_view}
use Rattle.online_robust.proofs.Standings.{IsEndFor, can_end, end_stands, fault_is_wide, fault_stops, passing_end}
use Rattle.online_robust.proofs.net.RobustNet.close.Goals.{After-time-now}
use Rattle.online_robust.proofs.net.RobustNet.close.Goals as goal

-- the end may come at the time of the last row
ends_at : (c : After-time-now) → IsEndFor (the_view c.self.inside) c.time-now.result
ends_at c = record {
  some = subst (λ (p : Parts). p.last ≢ None) (sym c.self.view_is) c.requires;
  opened = c.if-self-2.false;
  is_now = subst (λ o. IfSome o (λ q. c.time-now.result ≡ q.time)) (sym c.in-Some.is) c.time-now.ensures;
}

pub take_end_all-requires : goal.take_end_all-requires
take_end_all-requires c =
    let (nodes, header, past, given, st) = c.self.invariant c.if-self.false in
    let ends = ends_at (goal.at.take_end_all-requires c).After-time-now in
    let net = the_view c.self.inside in
    let pass = passing_end nodes header net past given st c.time-now.result ends in
    let may = can_end nodes header net past given st c.time-now.result ends in
    (pass, may)

pub returns-in-Err-clause-answer : goal.returns-in-Err-clause-answer
returns-in-Err-clause-answer c =
    let (nodes, header, past, given, st) = c.self.invariant c.if-self.false in
    let ends = ends_at (goal.at.returns-in-Err-clause-answer c).After-time-now in
    let net = the_view c.self.inside in
    let pass = passing_end nodes header net past given st c.time-now.result ends in
    let may = can_end nodes header net past given st c.time-now.result ends in
    fault_stops c.args.self.now
    (record net { edges = c.take_end_all.new.edges; stations = c.take_end_all.new.stations.items; stopped = true }) pass c.in-Err.fault
    (subst (λ (p : Parts). p.stopped ≡ false) c.self.view_is c.if-self.false) (subst (λ (p : Parts). p.closed ≡ false) c.self.view_is c.if-self-2.false) refl
    (c.in-Err.ensures.fault pass may)

pub returns-in-Err-clause-wide : goal.returns-in-Err-clause-wide
returns-in-Err-clause-wide c nodes header past given stands =
    let st = subst (λ (p : Parts). StandsFor nodes header p past given) (sym c.self.view_is) stands in
    let ends = ends_at (goal.at.returns-in-Err-clause-wide c).After-time-now in
    let net = the_view c.self.inside in
    let pass = passing_end nodes header net past given st c.time-now.result ends in
    let may = can_end nodes header net past given st c.time-now.result ends in
    fault_is_wide pass c.in-Err.fault (c.in-Err.ensures.fault pass may)

pub invariant_of-self : goal.invariant_of-self
invariant_of-self c running =
    let (nodes, header, past, given, st) = c.self.invariant c.if-self.false in
    let ends = ends_at (goal.at.invariant_of-self c).After-time-now in
    let net = the_view c.self.inside in
    let pass = passing_end nodes header net past given st c.time-now.result ends in
    let may = can_end nodes header net past given st c.time-now.result ends in (
      nodes,
      header,
      with_end past,
      given,
      end_stands nodes header net past given st c.time-now.result ends c.take_end_all.new.edges c.take_end_all.new.stations.items
          (c.in-Ok.ensures.gone pass may),
    )

pub returns-in-Ok-clause-stands : goal.returns-in-Ok-clause-stands
returns-in-Ok-clause-stands c nodes header past given stands =
    let st = subst (λ (p : Parts). StandsFor nodes header p past given) (sym c.self.view_is) stands in
    let ends = ends_at (goal.at.returns-in-Ok-clause-stands c).After-time-now in
    let net = the_view c.self.inside in
    let pass = passing_end nodes header net past given st c.time-now.result ends in
    let may = can_end nodes header net past given st c.time-now.result ends in
    end_stands nodes header net past given st c.time-now.result ends c.take_end_all.new.edges c.take_end_all.new.stations.items
    (c.in-Ok.ensures.gone pass may)

pub returns-in-Ok-clause-nodes : goal.returns-in-Ok-clause-nodes
returns-in-Ok-clause-nodes c = c.take_end_all.ensures.nodes ∙ ap (λ (p : Parts). length p.stations) c.self.view_is

pub returns-in-Err-clause-nodes : goal.returns-in-Err-clause-nodes
returns-in-Err-clause-nodes c = c.take_end_all.ensures.nodes ∙ ap (λ (p : Parts). length p.stations) c.self.view_is
