use Rattle.std.proofs.Common.{◌≡◌, ◌<◌, Option, Some, None, List, [], ◌∷◌, ◌++◌, length, sym, ap, subst, ◌∙◌}
use Rattle.std.specs.Prelude.{slice_get, IfSome}
use Rattle.stl_syntax.specs.Trace.{Header, Row}
use Rattle.stl_syntax.specs.declared.node.Node.{Node}
use Rattle.online_nodes.specs.Network.{Event, row}
use Rattle.online_nodes.specs.Held.{Held, edge_at}
use Rattle.online_net.specs.Nets.{Parts, Stands}
use Rattle.online_net.specs.Atoms.{HasPutAtoms, begun}
use Rattle.online_net.proofs.RowInNet.{fed_stands, put_joins}
use Rattle.online_net.proofs.StillSteps.{atoms_bound, last_width, row_may}
use Rattle.online_net.specs.contracts.net.Net.{the_view}
use Rattle.online_net.proofs.net.Net.feed.Goals as goal

pub put_row-requires-clause-atoms : goal.put_row-requires-clause-atoms
put_row-requires-clause-atoms c j is =
    let net : Parts = the_view c.self.inside in
    let w = c.self.invariant.0 c.if-self.false in
    atoms_bound w.0 w.1 w.2 net w.3 j (subst (λ l. slice_get l j ≡ Some None) c.deref.ensures.value is)

pub put_row-requires-clause-first : goal.put_row-requires-clause-first
put_row-requires-clause-first c =
    let net : Parts = the_view c.self.inside in
    let w = c.self.invariant.0 c.if-self.false in
    last_width w.0 w.1 w.2 net w.3

-- the network with the row, as it is kept
with_row : (net : Parts) (nodes : List Node) (header : Header) (events : List Event) (e : Held) (r : Row) (kept : Option Row) → kept ≡ Some r
    → Stands nodes header (record net { edges = e; last = Some r }) events → Stands nodes header (record net { edges = e; last = kept }) events
with_row net nodes header events e r kept same h = subst (λ q. Stands nodes header (record net { edges = e; last = q }) events) (sym same) h

pub invariant_of-self-in-Ok-keep_row : goal.invariant_of-self-in-Ok-keep_row
invariant_of-self-in-Ok-keep_row c = (
  (λ running.
      let net : Parts = the_view c.self.inside in
      let w = c.self.invariant.0 c.if-self.false in (
        w.0,
        w.1,
        w.2 ++ row c.args.row.now ∷ [],
        with_row net w.0 w.1 (w.2 ++ row c.args.row.now ∷ []) c.put_row.new.edges c.args.row.now c.keep_row.new.last
            c.in-Ok-keep_row.ensures (fed_stands w.0 w.1 w.2 net w.3 c.args.row.now
            (row_may w.0 w.1 w.2 net w.3 c.args.row.now c.if-self-2.false
            (subst (λ (p : Parts). IfSome p.last (λ q. q.time < c.args.row.now.time)) (sym c.self.view_is) c.requires.later)
            (subst (λ (p : Parts). length c.args.row.now.values ≡ p.bound.width) (sym c.self.view_is) c.requires.width))
            c.put_row.new.edges
            (subst (λ l. HasPutAtoms c.self.inside.bound c.self.inside.last c.args.row.now l (length l)
            (begun c.self.inside.edges c.self.inside.last c.args.row.now) c.put_row.new.edges) c.deref.ensures.value c.in-Ok.ensures)),
      )),
  c.self.invariant.1,
)

pub returns-clause-stands : goal.returns-clause-stands
returns-clause-stands c nodes header events st =
    let net : Parts = the_view c.self.inside in
    let now : Stands nodes header net events = (subst (λ (p : Parts). Stands nodes header p events) (sym c.self.view_is) st) in
    with_row net nodes header (events ++ row c.args.row.now ∷ []) c.put_row.new.edges c.args.row.now c.keep_row.new.last c.in-Ok-keep_row.ensures
    (fed_stands nodes header events net now c.args.row.now
    (row_may nodes header events net now c.args.row.now c.if-self-2.false
    (subst (λ (p : Parts). IfSome p.last (λ q. q.time < c.args.row.now.time)) (sym c.self.view_is) c.requires.later)
    (subst (λ (p : Parts). length c.args.row.now.values ≡ p.bound.width) (sym c.self.view_is) c.requires.width))
    c.put_row.new.edges
    (subst (λ l. HasPutAtoms c.self.inside.bound c.self.inside.last c.args.row.now l (length l) (begun c.self.inside.edges c.self.inside.last c.args.row.now)
    c.put_row.new.edges) c.deref.ensures.value c.in-Ok.ensures))

pub returns-clause-joins : goal.returns-clause-joins
returns-clause-joins c = λ j.
    let net : Parts = the_view c.self.inside in
    let w = c.self.invariant.0 c.if-self.false in
    put_joins w.0 w.1 w.2 net w.3 c.args.row.now
    (row_may w.0 w.1 w.2 net w.3 c.args.row.now c.if-self-2.false
    (subst (λ (p : Parts). IfSome p.last (λ q. q.time < c.args.row.now.time)) (sym c.self.view_is) c.requires.later)
    (subst (λ (p : Parts). length c.args.row.now.values ≡ p.bound.width) (sym c.self.view_is) c.requires.width))
    c.put_row.new.edges
    (subst (λ l. HasPutAtoms c.self.inside.bound c.self.inside.last c.args.row.now l (length l) (begun c.self.inside.edges c.self.inside.last c.args.row.now)
    c.put_row.new.edges) c.deref.ensures.value c.in-Ok.ensures) j
    ∙ ap (λ (p : Parts). (edge_at p.edges j).joins) c.self.view_is
