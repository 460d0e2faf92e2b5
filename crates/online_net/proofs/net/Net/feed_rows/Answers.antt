use Rattle.std.proofs.Common.{◌≡◌, Option, Some, None, List, ◌++◌, length, sym, ap, subst, ◌∙◌}
use Rattle.std.specs.Prelude.{slice_get, IfSome}
use Rattle.stl_syntax.specs.Trace.{Header, Row}
use Rattle.stl_syntax.specs.declared.node.Node.{Node}
use Rattle.atom_lines.specs.Rows.{row_of}
use Rattle.online_nodes.specs.Driven.{rows_of}
use Rattle.online_nodes.specs.Network.{Event}
use Rattle.online_nodes.specs.Held.{Held, edge_at}
use Rattle.online_net.specs.Nets.{Parts, Stands}
use Rattle.online_net.specs.Stretches.{HaveRows, rows_between}
use Rattle.online_net.proofs.BlockRows.{rows_fed}
use Rattle.online_net.proofs.EdgeRows.{rows_join}
use Rattle.std.proofs.lemmas.Option.{slice_get_within}
use Rattle.online_net.proofs.StillSteps.{atoms_bound, last_width}
use Rattle.online_net.specs.contracts.net.Net.{the_view}
use Rattle.online_net.proofs.net.Net.feed_rows.Goals as goal
use Rattle.online_net.proofs.net.Net.feed_rows.Goals.{After-keep_row_of}

pub put_rows-requires-clause-atoms : goal.put_rows-requires-clause-atoms
put_rows-requires-clause-atoms c j is =
    let net : Parts = the_view c.self.inside in
    let w = c.self.invariant.0 c.if-self.false in
    atoms_bound w.0 w.1 w.2 net w.3 j (subst (λ l. slice_get l j ≡ Some None) c.deref.ensures.value is)

pub keep_row_of-requires-clause-some : goal.keep_row_of-requires-clause-some
keep_row_of-requires-clause-some c = λ none.
    let e : (the_view c.self.inside).last ≡ Some (row_of c.args.block.now c.args.from) = ap (λ (p : Parts). p.last) c.self.view_is ∙ c.requires.last in
    (let y : None ≡ Some (row_of c.args.block.now c.args.from) = sym none ∙ e in cc)

pub keep_row_of-requires-clause-width : goal.keep_row_of-requires-clause-width
keep_row_of-requires-clause-width c =
    let net : Parts = the_view c.self.inside in
    let w = c.self.invariant.0 c.if-self.false in
    subst (λ n. IfSome net.last (λ q. length q.values ≡ n))
    (sym (c.requires.columns ∙ ap (λ (p : Parts). p.bound.width) (sym c.self.view_is))) (last_width w.0 w.1 w.2 net w.3)

-- the network with the rows, as it is kept
with_row : (net : Parts) (nodes : List Node) (header : Header) (events : List Event) (e : Held) (r : Row) (kept : Option Row) → kept ≡ Some r
    → Stands nodes header (record net { edges = e; last = Some r }) events → Stands nodes header (record net { edges = e; last = kept }) events
with_row net nodes header events e r kept same h = subst (λ q. Stands nodes header (record net { edges = e; last = q }) events) (sym same) h

-- once the rows were put and the last of them is kept
fed : (c : After-keep_row_of) (nodes : List Node) (header : Header) (events : List Event) → Stands nodes header (the_view c.self.inside) events
    → Stands nodes header (record (the_view c.self.inside) { edges = c.put_rows.new.edges; last = c.keep_row_of.new.last })
    (events ++ rows_of (rows_between c.args.block.now c.args.from c.args.to))
fed c nodes header events st =
    let net : Parts = the_view c.self.inside in
    let block = c.args.block.now in
    with_row net nodes header (events ++ rows_of (rows_between block c.args.from c.args.to)) c.put_rows.new.edges (row_of block c.args.to)
    c.keep_row_of.new.last c.keep_row_of.ensures.row
    (rows_fed nodes header events net st block c.keep_row_of.ensures.trace
    (subst (λ (p : Parts). length block.header.columns ≡ p.bound.width) (sym c.self.view_is) c.requires.columns) c.args.from c.args.to c.requires.order
    c.requires.within c.put_rows.new.edges
    (subst (λ l. HaveRows net.bound block c.args.from c.args.to l (length l) net.edges c.put_rows.new.edges) c.deref.ensures.value c.in-Ok.ensures)
    c.if-self-2.false (ap (λ (p : Parts). p.last) c.self.view_is ∙ c.requires.last))

pub invariant_of-self-2 : goal.invariant_of-self-2
invariant_of-self-2 c = (
  (λ running.
      let w = c.self.invariant.0 c.if-self.false in (
        w.0,
        w.1,
        w.2 ++ rows_of (rows_between c.args.block.now c.args.from c.args.to),
        fed (goal.at.invariant_of-self-2 c).After-keep_row_of w.0 w.1 w.2 w.3,
      )),
  c.self.invariant.1,
)

pub returns-clause-stands : goal.returns-clause-stands
returns-clause-stands c nodes header events st =
    fed (goal.at.returns-clause-stands c).After-keep_row_of nodes header events
    (subst (λ (p : Parts). Stands nodes header p events) (sym c.self.view_is) st)

pub returns-clause-joins : goal.returns-clause-joins
returns-clause-joins c = λ j.
    let net : Parts = the_view c.self.inside in
    rows_join net.bound c.args.block.now c.args.from c.args.to net.operators 0 (length net.operators)
    (subst (λ l. HaveRows net.bound c.args.block.now c.args.from c.args.to l (length l) net.edges c.put_rows.new.edges) c.deref.ensures.value c.in-Ok.ensures)
    (λ k at. slice_get_within net.operators k None at) j
    ∙ ap (λ (p : Parts). (edge_at p.edges j).joins) c.self.view_is
