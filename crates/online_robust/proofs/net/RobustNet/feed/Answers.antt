use Rattle.std.proofs.Common.{◌≡◌, ◌<◌, ◌∙◌, true, false, length, ap, arith, refl, sym, subst}
use Rattle.std.specs.Prelude.{IfSome}
use Rattle.online_robust.specs.Pasts.{with_row}
use Rattle.online_robust.specs.Nets.{Parts, StandsFor}
use Rattle.online_robust.specs.contracts.net.RobustNet.{the_view}
use Rattle.online_robust.proofs.Standings.{IsRowFor, fault_is_wide, fault_stops, no_start, passing_row, row_may, row_stands}
use Rattle.online_robust.proofs.net.RobustNet.feed.Goals.{After-begin_at}
use Rattle.online_robust.proofs.net.RobustNet.feed.Goals as goal

pub begin_at-requires : goal.begin_at-requires
begin_at-requires c none =
    let (nodes, header, past, given, st) = c.self.invariant c.if-self.false in
    no_start nodes header (the_view c.self.inside) past given st none

-- the row may be given
fits_at : (c : After-begin_at) → IsRowFor (the_view c.self.inside) c.args.row.now
fits_at c = record {
  width = subst (λ (p : Parts). length c.args.row.now.values ≡ p.bound.width) (sym c.self.view_is) c.requires.width;
  later = subst (λ (p : Parts). IfSome p.last (λ q. q.time < c.args.row.now.time)) (sym c.self.view_is) c.requires.later;
  small = omega arith;
  opened = c.if-self-2.false;
}

pub take_row_all-requires : goal.take_row_all-requires
take_row_all-requires c =
    let (nodes, header, past, given, st) = c.self.invariant c.if-self.false in
    let r = c.args.row.now in
    let fits = fits_at (goal.at.take_row_all-requires c).After-begin_at in
    let net = the_view c.self.inside in
    let pass = passing_row nodes header net past given st r fits in
    let may = row_may nodes header net past given st r fits c.begin_at.new.edges c.time-now.result c.time-now.ensures c.begin_at.ensures in
    (pass, may)

pub returns-in-Err-clause-answer : goal.returns-in-Err-clause-answer
returns-in-Err-clause-answer c =
    let (nodes, header, past, given, st) = c.self.invariant c.if-self.false in
    let r = c.args.row.now in
    let fits = fits_at (goal.at.returns-in-Err-clause-answer c).After-begin_at in
    let net = the_view c.self.inside in
    let pass = passing_row nodes header net past given st r fits in
    let may = row_may nodes header net past given st r fits c.begin_at.new.edges c.time-now.result c.time-now.ensures c.begin_at.ensures in
    fault_stops c.args.self.now
    (record net { edges = c.take_row_all.new.edges; stations = c.take_row_all.new.stations.items; stopped = true }) pass c.in-Err.fault
    (subst (λ (p : Parts). p.stopped ≡ false) c.self.view_is c.if-self.false) (subst (λ (p : Parts). p.closed ≡ false) c.self.view_is c.if-self-2.false) refl
    (c.in-Err.ensures.fault pass may)

pub returns-in-Err-clause-wide : goal.returns-in-Err-clause-wide
returns-in-Err-clause-wide c nodes header past given stands =
    let st = subst (λ (p : Parts). StandsFor nodes header p past given) (sym c.self.view_is) stands in
    let r = c.args.row.now in
    let fits = fits_at (goal.at.returns-in-Err-clause-wide c).After-begin_at in
    let net = the_view c.self.inside in
    let pass = passing_row nodes header net past given st r fits in
    let may = row_may nodes header net past given st r fits c.begin_at.new.edges c.time-now.result c.time-now.ensures c.begin_at.ensures in
    fault_is_wide pass c.in-Err.fault (c.in-Err.ensures.fault pass may)

pub invariant_of-self : goal.invariant_of-self
invariant_of-self c running =
    let (nodes, header, past, given, st) = c.self.invariant c.if-self.false in
    let r = c.args.row.now in
    let fits = fits_at (goal.at.invariant_of-self c).After-begin_at in
    let net = the_view c.self.inside in
    let pass = passing_row nodes header net past given st r fits in
    let may = row_may nodes header net past given st r fits c.begin_at.new.edges c.time-now.result c.time-now.ensures c.begin_at.ensures in (
      nodes,
      header,
      with_row past r,
      given,
      row_stands nodes header net past given st r fits c.take_row_all.new.edges
          c.take_row_all.new.stations.items c.keep_row.new.last c.in-Ok-keep_row.ensures.kept
          (c.in-Ok.ensures.gone pass may),
    )

pub returns-in-Ok-keep_row-clause-stands : goal.returns-in-Ok-keep_row-clause-stands
returns-in-Ok-keep_row-clause-stands c nodes header past given stands =
    let st = subst (λ (p : Parts). StandsFor nodes header p past given) (sym c.self.view_is) stands in
    let r = c.args.row.now in
    let fits = fits_at (goal.at.returns-in-Ok-keep_row-clause-stands c).After-begin_at in
    let net = the_view c.self.inside in
    let pass = passing_row nodes header net past given st r fits in
    let may = row_may nodes header net past given st r fits c.begin_at.new.edges c.time-now.result c.time-now.ensures c.begin_at.ensures in
    row_stands nodes header net past given st r fits c.take_row_all.new.edges
    c.take_row_all.new.stations.items c.keep_row.new.last c.in-Ok-keep_row.ensures.kept
    (c.in-Ok.ensures.gone pass may)

pub returns-in-Ok-keep_row-clause-nodes : goal.returns-in-Ok-keep_row-clause-nodes
returns-in-Ok-keep_row-clause-nodes c = c.take_row_all.ensures.nodes ∙ ap (λ (p : Parts). length p.stations) c.self.view_is

pub returns-in-Err-clause-nodes : goal.returns-in-Err-clause-nodes
returns-in-Err-clause-nodes c = c.take_row_all.ensures.nodes ∙ ap (λ (p : Parts). length p.stations) c.self.view_is

pub returns-in_default-clause-nodes : goal.returns-in_default-clause-nodes
returns-in_default-clause-nodes c = c.take_row_all.ensures.nodes ∙ ap (λ (p : Parts). length p.stations) c.self.view_is
